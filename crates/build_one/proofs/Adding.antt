-- A tile that a writer took is one tile more.
use Rattle.std.proofs.Common.{◌≡◌, ℕ, Result, Ok, Err, List, subst}
use Rattle.std.specs.Prelude.{⊤}
use Rattle.tb_outside.specs.Spill.{SpillSeen}
use Rattle.tb_outside.specs.declared.spill.SpillErr.{SpillErr}
use Rattle.tb_outside.specs.declared.spill.SpillErr.TheVariants as spill_errors
use Rattle.tb_types.specs.declared.trouble.Whom.TheVariants as whom
use Rattle.mvt_codec.specs.declared.item.RunItem.{RunItem}
use Rattle.mvt_codec.specs.Groups.{text_of_items}
use Rattle.pmtiles_file.specs.Writing.{WriterSeen, AddAnswers}
use Rattle.run_merge.specs.declared.merge_err.MergeErr.{MergeErr}
use Rattle.run_merge.specs.declared.merge_err.MergeErr.TheVariants as errors
use Rattle.tile_model.specs.Map.{tile_from}
use Rattle.build_one.specs.Writing.{TileAnswers}

-- the writer's answer is the merge's
abbrev pub as_merge : Result ⊤ SpillErr → Result ⊤ MergeErr
as_merge (Ok x) = Ok x
as_merge (Err spill_errors.Failed) = Err (errors.Spill whom.Spool)
as_merge (Err spill_errors.Memory) = Err errors.Memory

added : (old new : WriterSeen) (id : ℕ) (bytes : List ℕ) (before after : SpillSeen) (r : Result ⊤ SpillErr) → AddAnswers old new id bytes before after r
    → TileAnswers old new (record { id = id; bytes = bytes }) before after (as_merge r)
added old new id bytes before after (Ok u) a = record {
  next = a.next;
  meta = a.meta;
  added = λ tiles w runs is. let h = w runs is in let more = a.added h.runs tiles h.told h.wrote in record { runs = _; told = more.told; wrote = more.wrote };
  stands = a.stands;
  untold = a.untold;
  kept = a.kept;
  counts = a.counts;
  never_falls = a.never_falls;
}
added old new id bytes before after (Err spill_errors.Failed) a = record { next = tt; meta = a.meta; added = tt; stands = tt; untold = tt; kept = a.kept; counts = a.counts; never_falls = a.never_falls }
added old new id bytes before after (Err spill_errors.Memory) a = record { next = tt; meta = a.meta; added = tt; stands = tt; untold = tt; kept = a.kept; counts = a.counts; never_falls = a.never_falls }

pub tile-added : (names : List (List ℕ)) (id : ℕ) (items : List RunItem) (old new : WriterSeen) (bytes : List ℕ) (before after : SpillSeen) (r : Result ⊤ SpillErr) → bytes ≡ text_of_items names items
    → AddAnswers old new id bytes before after r → TileAnswers old new (tile_from names (id, items)) before after (as_merge r)
tile-added names id items old new bytes before after r text a = subst (λ bs. TileAnswers old new (record { id = id; bytes = bs }) before after (as_merge r)) text (added old new id bytes before after r a)
