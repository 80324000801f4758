-- A look into an archive: it is opened, its contents are counted, and then a text is made.
use Rattle.std.proofs.Common.{◌≡◌, ℕ, Bool, true, false, Option, None, Some, Result, Ok, Err, List, refl, sym, ap, subst, ◌∙◌}
use Rattle.std.specs.Prelude.{IfSome}
use Rattle.tb_types.specs.declared.tile.TileXyz.{TileXyz}
use Rattle.tb_outside.specs.Source.{SourceSeen}
use Rattle.hilbert_ids.specs.Ids.{number_of}
use Rattle.mvt_codec.specs.Grammar.{tile_of}
use Rattle.pmtiles_dirs.specs.declared.fault.ArcFault.{ArcFault}
use Rattle.pmtiles_dirs.specs.Contents.{Tile}
use Rattle.pmtiles_dirs.specs.Fault.{Opened, opened, tile_fault, fault_in}
use Rattle.pmtiles_dirs.specs.Back.{tiles_of, back_of, read_back, tile_at}
use Rattle.pmtiles_read.specs.declared.error.ReadErr.{ReadErr}
use Rattle.pmtiles_read.specs.declared.error.ReadErr.TheVariants as errors
use Rattle.pmtiles_read.specs.Answers.{Gives, Reads, IsNotFailed, OpenAnswers, TileAnswers}
use Rattle.pmtiles_read.specs.Tiles.{IsOpenedFrom}
use Rattle.archive_text.specs.declared.totals.Totals.{Totals}
use Rattle.archive_text.specs.Rows.{is_tile}
use Rattle.archive_text.specs.Check.{totals_in, totals_text, text_of, check_text}
use Rattle.archive_text.specs.Show.{layers_in, no_tile_text, found_text, text_in, show_text}
use Rattle.archive_text.specs.Due.{unless_fault, due_of}
use Rattle.archive_text.specs.Answers.{LookAnswers, CountAnswers, ShownAnswers, totals_due}
use Rattle.archive_text.proofs.InTurn.{one-value, one-fault, not-both, reads-then, reads-still, reads-err, gives-err, gives-free, if-told, told-is}
use Rattle.archive_text.proofs.TileFaults.{found-is_tile}

-- what is due for an archive that isn't open
closed-due : (text : List ℕ → List ℕ) (archive : List ℕ) (fault : ArcFault) → opened archive ≡ Err fault → due_of text archive ≡ Err fault
closed-due text archive fault is = ap (λ (r : Result Opened ArcFault). unless_fault (fault_in is_tile archive r) (text archive)) is

-- and for one that is
open-due : (text : List ℕ → List ℕ) (archive : List ℕ) (o : Opened) → opened archive ≡ Ok o → due_of text archive ≡ unless_fault (tile_fault is_tile archive o o.entries) (text archive)
open-due text archive o is = ap (λ (r : Result Opened ArcFault). unless_fault (fault_in is_tile archive r) (text archive)) is

same-fault : {A B : Type 0} (f : Option ArcFault) (x : A) (y : B) (fault : ArcFault) → unless_fault f x ≡ Err fault → unless_fault f y ≡ Err fault
same-fault None x y fault h = absurd (not-both (unless_fault None x) x fault refl h)
same-fault (Some one) x y fault h = ap Err (one-fault (unless_fault (Some one) x) one fault refl h)

no-fault : {A : Type 0} (f : Option ArcFault) (x y : A) → unless_fault f x ≡ Ok y → (f ≡ None) × (x ≡ y)
no-fault None x y h = (refl, one-value (unless_fault None x) x y refl h)
no-fault (Some one) x y h = absurd (not-both (unless_fault (Some one) x) y one h refl)

module _ (old mid : SourceSeen) where
  pub open-err : (text : List ℕ → List ℕ) (e : ReadErr) → OpenAnswers old mid (Err e) → LookAnswers text old mid (Err e)
  open-err text e h = record {
    told = λ archive t. gives-err (λ o. o) (λ x. x) e (opened archive) (due_of text archive) (λ fault is. closed-due text archive fault is) (h.told archive t);
    reads = reads-err old mid e h.reads;
  }

  -- the source still tells the bytes that were opened
  pub still-opened : (o : Opened) → OpenAnswers old mid (Ok o) → IfSome mid.bytes (λ archive. IsOpenedFrom archive o)
  still-opened o h = if-told mid.bytes (λ archive. IsOpenedFrom archive o) (λ archive t. h.told archive (sym h.reads.bytes ∙ t))

module _ (old mid new : SourceSeen) (o : Opened) where
  pub still-counted : (totals : Totals) → OpenAnswers old mid (Ok o) → CountAnswers o mid new (Ok totals) → IfSome new.bytes (λ archive. IsOpenedFrom archive o)
  still-counted totals h k = if-told new.bytes (λ archive. IsOpenedFrom archive o) (λ archive t. h.told archive (sym h.reads.bytes ∙ (sym k.reads.bytes ∙ t)))

  pub count-err : (text : List ℕ → List ℕ) (e : ReadErr) → OpenAnswers old mid (Ok o) → CountAnswers o mid new (Err e) → LookAnswers text old new (Err e)
  count-err text e h k = record {
    told = λ archive t.
        gives-err (λ x. x) (λ x. x) e (totals_due archive o) (due_of text archive)
        (λ fault is. open-due text archive o (h.told archive t) ∙ same-fault (tile_fault is_tile archive o o.entries) (totals_in archive o) (text archive) fault is) (k.told archive (h.reads.bytes ∙ t));
    reads = reads-then old mid new o (Err e) h.reads (reads-err mid new e k.reads);
  }

  counted-fine : (totals : Totals) (archive : List ℕ) → OpenAnswers old mid (Ok o) → CountAnswers o mid new (Ok totals) → old.bytes ≡ Some archive → (tile_fault is_tile archive o o.entries ≡ None) × (totals_in archive o ≡ totals)
  counted-fine totals archive h k t = no-fault (tile_fault is_tile archive o o.entries) (totals_in archive o) totals (k.told archive (h.reads.bytes ∙ t))

  -- each content is a tile, so a text is due
  text-due : (text : List ℕ → List ℕ) (totals : Totals) (archive : List ℕ) → OpenAnswers old mid (Ok o) → CountAnswers o mid new (Ok totals) → old.bytes ≡ Some archive → due_of text archive ≡ Ok (text archive)
  text-due text totals archive h k t = open-due text archive o (h.told archive t) ∙ ap (λ (f : Option ArcFault). unless_fault f (text archive)) (counted-fine totals archive h k t).0

  pub count-memory : (text : List ℕ → List ℕ) (totals : Totals) (e : ReadErr) → e ≡ errors.Memory → OpenAnswers old mid (Ok o) → CountAnswers o mid new (Ok totals) → LookAnswers text old new (Err e)
  count-memory text totals e is h k =
      subst (λ (x : ReadErr). LookAnswers text old new (Err x)) (sym is) (record {
        told = λ archive t. tt;
        reads = reads-then old mid new o (Err errors.Memory) h.reads (reads-still mid new totals (Err errors.Memory) k.reads tt);
      })

  checked : (archive : List ℕ) → opened archive ≡ Ok o → check_text archive ≡ totals_text (totals_in archive o)
  unfolding check_text
  checked archive is = ap (text_of archive) is

  pub check-done : (totals : Totals) (told : List ℕ) → told ≡ totals_text totals → OpenAnswers old mid (Ok o) → CountAnswers o mid new (Ok totals) → LookAnswers check_text old new (Ok told)
  check-done totals told is h k = record {
    told = λ archive t.
        text-due check_text totals archive h k t ∙ ap Ok (checked archive (h.told archive t) ∙ (ap totals_text (counted-fine totals archive h k t).1 ∙ sym is));
    reads = reads-then old mid new o (Ok told) h.reads (reads-still mid new totals (Ok told) k.reads tt);
  }

  shown : (tile : TileXyz) (id : ℕ) (archive : List ℕ) → id ≡ number_of tile → read_back archive ≡ Some (tiles_of archive o) → show_text tile archive ≡ found_text (tile_at (tiles_of archive o) id)
  unfolding show_text
  shown tile id archive is back = ap (text_in (number_of tile)) back ∙ ap (λ (n : ℕ). found_text (tile_at (tiles_of archive o) n)) (sym is)

  pub show-done : (tile : TileXyz) (id : ℕ) (last : SourceSeen) (totals : Totals) (r : Result (List ℕ) ReadErr) → id ≡ number_of tile → OpenAnswers old mid (Ok o) → CountAnswers o mid new (Ok totals) → ShownAnswers o id new last r → LookAnswers (show_text tile) old last r
  show-done tile id last totals r is h k s = record {
    told = λ archive t.
        subst (λ (due : Result (List ℕ) ArcFault). Gives (λ x. x) r due)
        (ap Ok (sym (shown tile id archive is (h.back archive t))) ∙ sym (text-due (show_text tile) totals archive h k t))
        (s.told archive (k.reads.bytes ∙ (h.reads.bytes ∙ t)) (counted-fine totals archive h k t).0);
    reads = reads-then old mid last o r h.reads (reads-then mid new last totals r k.reads s.reads);
  }

-- what is read back from an open archive
back-is : (archive : List ℕ) (o : Opened) → opened archive ≡ Ok o → read_back archive ≡ Some (tiles_of archive o)
unfolding read_back
back-is archive o is = ap (back_of archive) is

module _ (o : Opened) (id : ℕ) (old new : SourceSeen) where
  abbrev pub StillOpened : Type 0
  StillOpened = IfSome old.bytes (λ archive. IsOpenedFrom archive o)

  found-at : (found : Option (List ℕ)) (archive : List ℕ) → StillOpened → TileAnswers o old new id (Ok found) → old.bytes ≡ Some archive → found ≡ tile_at (tiles_of archive o) id
  found-at found archive is h t = h.back archive (tiles_of archive o) t (back-is archive o (told-is old.bytes (λ a. IsOpenedFrom a o) archive is t))

  pub shown-none : (text : List ℕ) → text ≡ no_tile_text → StillOpened → TileAnswers o old new id (Ok None) → ShownAnswers o id old new (Ok text)
  shown-none text told is h = record {
    told = λ archive t fine. ap Ok (sym (ap found_text (found-at None archive is h t)) ∙ sym told);
    reads = reads-still old new None (Ok text) h.reads tt;
  }

  pub shown-some : (content : List ℕ) (r : Result (List ℕ) ReadErr) → (is_tile content ≡ true → Gives (λ t. t) r (Ok (layers_in (tile_of content)))) → IsNotFailed r → StillOpened → TileAnswers o old new id (Ok (Some content)) → ShownAnswers o id old new r
  shown-some content r gives free is h = record {
    told = λ archive t fine.
        let found = found-at (Some content) archive is h t in
        subst (λ (due : Option (List ℕ)). Gives (λ x. x) r (Ok (found_text due))) found (gives (found-is_tile archive o o.entries id content fine (sym found)));
    reads = reads-still old new (Some content) r h.reads free;
  }

  pub shown-err : (e : ReadErr) → TileAnswers o old new id (Err e) → ShownAnswers o id old new (Err e)
  shown-err e h = record { told = λ archive t fine. gives-free (Option (List ℕ)) (λ x. x) e (Ok (found_text (tile_at (tiles_of archive o) id))) h.never_bad; reads = reads-err old new e h.reads }

  pub shown-memory : (found : Option (List ℕ)) (e : ReadErr) → e ≡ errors.Memory → TileAnswers o old new id (Ok found) → ShownAnswers o id old new (Err e)
  shown-memory found e is h =
      subst (λ (x : ReadErr). ShownAnswers o id old new (Err x)) (sym is) (record { told = λ archive t fine. tt; reads = reads-still old new found (Err errors.Memory) h.reads tt })
