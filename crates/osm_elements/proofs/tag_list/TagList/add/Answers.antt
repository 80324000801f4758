use Rattle.std.proofs.Common.{◌≡◌, true, cond, [], ◌∷◌, ◌++◌, drop, ap, sym, ◌∙◌, arith}
use Rattle.std.specs.Cmp.Lexicographic.{slice_cmp}
use Rattle.std.specs.Ordering.{is_eq, nat_cmp}
use Rattle.osm_elements.proofs.TagLists.{has, one_more_first, one_more_other}
use Rattle.osm_elements.proofs.tag_list.TagList.add.Goals as goal

pub invariant_of-self-then-len-le-WALKED : goal.invariant_of-self-then-len-le-WALKED
invariant_of-self-then-len-le-WALKED c =
    let tags = c.args.self.now.tags.items in
    record {
      known = λ q. c.args.self.now.known q
          ∙ (one_more_first q tags c.args.tag 32 (omega (arith, c.if-len-le-WALKED.true, c.len.ensures, c.in_ok-push.ensures.len, c.args.self.now.tags.ok.0)) ∙ ap (λ xs. has q (drop 32 xs)) (sym c.in_ok-push.ensures.items));
    }

pub invariant_of-self-in-Ok : goal.invariant_of-self-in-Ok
invariant_of-self-in-Ok c =
    let tags = c.args.self.now.tags.items in
    record {
      known = λ q. c.in-Ok.ensures.updates.0 (record { ref_ptr = (0, 0); now = q })
          ∙ (ap (λ b. cond (is_eq (slice_cmp nat_cmp c.args.tag.key.now q)) true b) (c.args.self.now.known q)
          ∙ (one_more_other q c.args.tag tags 32 (omega (arith, c.if-len-le-WALKED.false, c.len.ensures, c.in_ok-push.ensures.len, c.args.self.now.tags.ok.0)) ∙ ap (λ xs. has q (drop 32 xs)) (sym c.in_ok-push.ensures.items)));
    }
