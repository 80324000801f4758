-- Steps of one reader among many.
use Rattle.std.specs.Prelude.{OnOk}
use Rattle.std.proofs.Common.{◌≡◌, ℕ, ◌+◌, ◌<◌, Option, None, Some, IfSome, IsSome, List, [], ◌∷◌, length, map, get_or, set, drop, Result, Ok, Err, IfOk, All, Contains, sym, ap, subst, ◌∙◌, arith, true≢false}
use Rattle.std.proofs.lemmas.List.{length-map, map-set, get_or-map}
use Rattle.std.proofs.lemmas.List.Elements.{All-set, All-get_or, All-cons, All-nil, Contains-get_or}
use Rattle.tb_outside.specs.Spill.{Runs}
use Rattle.mvt_codec.specs.declared.item.RunItem.{RunItem}
use Rattle.run_merge.specs.declared.cursor.Head.{Head}
use Rattle.run_merge.specs.declared.cursor.Cursor.{Cursor}
use Rattle.run_merge.specs.declared.named_run.NamedRun.{NamedRun}
use Rattle.run_merge.specs.declared.run_reader.RunReader.{RunReader}
use Rattle.run_merge.specs.declared.merge_err.MergeErr.{MergeErr}
use Rattle.run_merge.specs.Items.{merged_runs}
use Rattle.run_merge.specs.Objects.{Objects, told_of}
use Rattle.run_merge.specs.Cursors.{head_rank, item_head, IsNext, IsHead, IsSound, IsFromRank, Reads, left_in, left_if, left_of, cursors_of, runs_of, AreSound, AreTold, IsTold}
use Rattle.run_merge.specs.Steps.{OnlyReads, Loads, Advances, IsLeast, left_at, LoadsAt, AdvancesAt, bytes_left}
use Rattle.run_merge.proofs.ObjectSteps.{fails_wider}
use Rattle.run_merge.proofs.Lanes.{map_set_same}
use Rattle.run_merge.proofs.Merged.{no_cursor, some_same, all_have_left, taken, ranks_from, bytes_fewer, runs_same}
use Rattle.run_merge.proofs.Leasts.{cursor_read}

pub on_ok : {A E : Type 0} {P Q : Type 0} (r : Result A E) → (P → Q) → OnOk r P → OnOk r Q
on_ok (Ok x) f h = f h
on_ok (Err e) f h = tt

pub if_ok : {A E : Type 0} {P Q : A → Type 0} (r : Result A E) → ((x : A) → P x → Q x) → IfOk r P → IfOk r Q
if_ok (Ok x) f h = f x h
if_ok (Err e) f h = tt

pub reads_wider : {R A : Type 0} (old new : Objects R) (runs more : List NamedRun) (r : Result A MergeErr) → All (Contains more) runs → OnlyReads old new runs r → OnlyReads old new more r
reads_wider old new runs more (Ok x) all h = h
reads_wider old new runs more (Err e) all h = fails_wider old new runs more e all h

count : (readers : List RunReader) → length (cursors_of readers) ≡ length readers
count readers = length-map readers (λ (reader : RunReader). reader.cursor)

-- the run of a reader among the runs of all
pub named_one : (readers : List RunReader) (number : ℕ) (d : RunReader) → number < length readers → All (Contains (runs_of (cursors_of readers))) ((get_or readers number d).cursor.run ∷ [])
named_one readers number d lt =
    let inside : number < length (cursors_of readers) = omega (arith, lt, count readers) in
    let runs = runs_of (cursors_of readers) in
    let same : get_or runs number no_cursor.run ≡ (get_or readers number d).cursor.run =
    get_or-map (λ (cursor : Cursor). cursor.run) (cursors_of readers) number no_cursor no_cursor.run inside ∙ ap (λ (c : Cursor). c.run) (cursor_read readers number d no_cursor lt) in
    let there : Contains runs (get_or runs number no_cursor.run) = Contains-get_or runs number no_cursor.run (omega (arith, inside, length-map (cursors_of readers) (λ (cursor : Cursor). cursor.run))) in
    All-cons (Contains runs) (get_or readers number d).cursor.run [] (subst (Contains runs) same there) (All-nil (Contains runs))

module _ (readers : List RunReader) (number : ℕ) (head : Head) (d : RunReader) (least : IsLeast (cursors_of readers) number head) where
  abbrev reader : RunReader
  reader = get_or readers number d

  pub inside : number < length readers
  inside = omega (arith, least.first.0, count readers)

  here_is : get_or (cursors_of readers) number no_cursor ≡ reader.cursor
  here_is = cursor_read readers number d no_cursor inside

  pub head_of_least : reader.cursor.head ≡ Some head
  head_of_least =
      ap (λ (c : Cursor). c.head) (sym here_is)
      ∙ sym (get_or-map (λ (cursor : Cursor). cursor.head) (cursors_of readers) number no_cursor None least.first.0)
      ∙ least.head_is

  module _ {R : Type 0} (o : Objects R) (layers : ℕ) (next : RunReader) (sound : AreSound readers) (told : AreTold o layers readers) where
    after_is : cursors_of (set readers number next) ≡ set (cursors_of readers) number next.cursor
    after_is = map-set (λ (r : RunReader). r.cursor) readers number next

    list_is : left_at o readers number ≡ left_of o reader.cursor
    list_is = get_or-map (left_of o) (cursors_of readers) number no_cursor [] least.first.0 ∙ ap (left_of o) here_is

    first_told : (item : RunItem) (r : Option Runs) → IsSome r → IfSome r (λ runs. left_in runs reader.cursor.run reader.cursor.at ≡ item ∷ drop 1 (left_in runs reader.cursor.run reader.cursor.at))
        → left_if reader.cursor.run reader.cursor.at r ≡ item ∷ drop 1 (left_if reader.cursor.run reader.cursor.at r)
    first_told item None s h = absurd (true≢false (sym s))
    first_told item (Some runs) s h = h

    pub loads_at : (item : RunItem) → Loads layers reader next item (told_of o reader.cursor.run) → LoadsAt o layers number head readers (set readers number next) item
    loads_at item loads = record {
      cursors = map_set_same (λ (r : RunReader). r.cursor) readers number d next inside loads.cursor;
      told_are = All-set (IsTold o layers) readers number next (subst (λ (c : Cursor). IfSome (told_of o c.run) (Reads layers next)) (sym loads.cursor) loads.told_is) told;
      item_is = loads.item_is;
      head_is = some_same head (item_head item) (sym head_of_least ∙ loads.head);
      first = λ tell.
          let here : left_of o reader.cursor ≡ item ∷ drop 1 (left_of o reader.cursor) = first_told item (told_of o reader.cursor.run) (tell reader.cursor.run.store) loads.first in
          list_is ∙ here ∙ ap (λ (l : List RunItem). item ∷ drop 1 l) (sym list_is);
    }

    placed : IsHead reader.cursor.run.run.len reader.cursor.at head
    placed = subst (IsNext reader.cursor.run.run.len reader.cursor.at) head_of_least (All-get_or IsSound readers number d inside sound).next

    pub advances_at : Advances layers reader next head (told_of o reader.cursor.run) → AdvancesAt o layers number head readers (set readers number next)
    advances_at advances =
        let cursors = cursors_of readers in
        record {
          runs = ap runs_of after_is ∙ runs_same cursors number head least reader.cursor next.cursor here_is advances.run;
          told_are = All-set (IsTold o layers) readers number next (subst (λ (r : NamedRun). IfSome (told_of o r) (Reads layers next)) (sym advances.run) advances.told_is) told;
          rises = subst (All (IsFromRank (head_rank head))) (sym after_is) (All-set (IsFromRank (head_rank head)) cursors number next.cursor advances.rises (ranks_from cursors number head least));
          bytes = bytes_fewer cursors number head least reader.cursor next.cursor here_is advances.run advances.at placed.within ∙ ap (λ (l : List Cursor). bytes_left l + head.len) (sym after_is);
          merged = λ tell.
              let t = taken layers (left_of o) cursors number head (all_have_left o layers tell readers told) least in
              let left : left_of o next.cursor ≡ drop 1 (left_at o readers number) =
              ap (λ (r : NamedRun). left_if r next.cursor.at (told_of o r)) advances.run ∙ advances.left ∙ ap (drop 1) (sym list_is) in
              let lists : set (map (left_of o) cursors) number (drop 1 (left_at o readers number)) ≡ map (left_of o) (cursors_of (set readers number next)) =
              ap (set (map (left_of o) cursors) number) (sym left) ∙ sym (map-set (left_of o) cursors number next.cursor) ∙ ap (map (left_of o)) (sym after_is) in
              record { item = t.item; item_is = t.item_is; head_is = t.head_is; first = t.first; merged = t.merged ∙ ap (λ (l : List (List RunItem)). t.item ∷ merged_runs l) lists };
        }
