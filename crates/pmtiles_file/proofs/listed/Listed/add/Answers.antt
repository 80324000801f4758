use Rattle.std.proofs.Common.{◌≡◌, ◌+◌, ◌^◌, ◌<◌, ◌≤◌, ℕ, Option, Some, List, [], ◌∷◌, ◌++◌, rules, ap, sym, subst, ◌∙◌}
use Rattle.std.specs.Prelude.{option_to_list}
use Rattle.pmtiles_dirs.specs.declared.entry.DirEntry.{DirEntry}
use Rattle.pmtiles_dirs.specs.Directory.{IsDirectory}
use Rattle.pmtiles_file.specs.Listed.{ListedSeen, IsListed, next_behind, entry_at, with_entry}
use Rattle.pmtiles_file.proofs.Entries.{grown-listed, grown-told, pushed-listed, pushed-told}
use Rattle.pmtiles_file.proofs.listed.Listed.add.Goals as goal

pub invariant_of-self-then-is_followed : goal.invariant_of-self-then-is_followed
invariant_of-self-then-is_followed c =
    let closed : List DirEntry = c.self.inside.closed.items in
    let fits : c.args.id < 2 ^ 64 = search rules in
    let inv : IsListed closed (Some c.in-Some-last.last) = subst (λ (o : Option DirEntry). IsListed closed o) c.in-Some-last.is c.self.invariant in
    subst (λ (x : DirEntry). IsDirectory (closed ++ x ∷ []) × (1 ≤ x.run)) (sym c.one_longer.ensures)
    (grown-listed closed c.in-Some-last.last c.args.id fits inv.0 inv.1 (c.is_followed.ensures.room c.if-is_followed.true) (c.is_followed.ensures.id c.if-is_followed.true))

pub returns-then-is_followed-clause-entries : goal.returns-then-is_followed-clause-entries
returns-then-is_followed-clause-entries c =
    let closed : List DirEntry = c.self.inside.closed.items in
    let e : DirEntry = entry_at c.args.id c.args.content in
    let entries : c.args.self.now.entries ≡ closed ++ c.in-Some-last.last ∷ [] = sym (ap (λ (x : ListedSeen). x.entries) c.self.view_is) ∙ ap (λ o. closed ++ option_to_list o) c.in-Some-last.is in
    ap (λ x. closed ++ x ∷ []) c.one_longer.ensures ∙ (grown-told closed c.in-Some-last.last e c.is_followed.result c.is_followed.ensures.told c.if-is_followed.true ∙ ap (λ es. with_entry es e) (sym entries))

pub invariant_of-self-2 : goal.invariant_of-self-2
invariant_of-self-2 c =
    let closed : List DirEntry = c.self.inside.closed.items in
    let fits : c.args.id < 2 ^ 64 = search rules in
    let inv : IsListed closed (Some c.in-Some-last.last) = subst (λ (o : Option DirEntry). IsListed closed o) c.in-Some-last.is c.self.invariant in
    let entries : c.args.self.now.entries ≡ closed ++ c.in-Some-last.last ∷ [] = sym (ap (λ (x : ListedSeen). x.entries) c.self.view_is) ∙ ap (λ o. closed ++ option_to_list o) c.in-Some-last.is in
    let next : next_behind 0 (closed ++ c.in-Some-last.last ∷ []) ≤ c.args.id = subst (λ es. next_behind 0 es ≤ c.args.id) entries c.requires.next in
    subst (λ (xs : List DirEntry). IsDirectory (xs ++ entry_at c.args.id c.args.content ∷ []) × (◌≤◌ 1 1)) (sym c.in-Ok.ensures.items) (pushed-listed closed c.in-Some-last.last c.args.id c.args.content fits c.requires.named inv.0 inv.1 next)

pub returns-clause-entries : goal.returns-clause-entries
returns-clause-entries c =
    let closed : List DirEntry = c.self.inside.closed.items in
    let e : DirEntry = entry_at c.args.id c.args.content in
    let entries : c.args.self.now.entries ≡ closed ++ c.in-Some-last.last ∷ [] = sym (ap (λ (x : ListedSeen). x.entries) c.self.view_is) ∙ ap (λ o. closed ++ option_to_list o) c.in-Some-last.is in
    ap (λ xs. xs ++ e ∷ []) c.in-Ok.ensures.items ∙ (pushed-told closed c.in-Some-last.last e c.is_followed.result c.is_followed.ensures.told c.if-is_followed.false ∙ ap (λ es. with_entry es e) (sym entries))
