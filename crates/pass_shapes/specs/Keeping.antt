-- Pieces that are emitted one after another.
use Rattle.std.proofs.Common.{◌≡◌, List, [], ◌++◌, map, Ok, Err, refl, sym, subst, ◌∙◌}
use Rattle.std.specs.Prelude.{⊤}
use Rattle.std.proofs.lemmas.List.{map-append}
use Rattle.tb_types.specs.declared.shape.Shape.{Shape}
use Rattle.tb_types.specs.declared.tile.TileXyz.{TileXyz}
use Rattle.tb_outside.specs.Spill.{SpillSeen}
use Rattle.tb_outside.specs.declared.spill.SpillErr.{SpillErr}
use Rattle.profile_rules.specs.declared.parts.Parts.{Parts}
use Rattle.feature_runs.specs.Writing.{Frames}
use Rattle.pass_shapes.specs.declared.pieces.Label.{Label}
use Rattle.pass_shapes.specs.declared.pieces.Pieces.{Pieces}
use Rattle.pass_shapes.specs.Pieces.{item_of}
use Rattle.pass_shapes.specs.Emitting.{Emits}
use Rattle.pass_shapes.specs.EmitLaws.{emits-none, emits-on, emits-as, frames-on}

module _ {S : Type 0} (seen : S → SpillSeen) where
  -- the taker before and after, which writes to the same buffer and spill
  pub record IsSame (old new : Pieces S) : Type 0 where
    pub buffer : new.buffer.ghost_name ≡ old.buffer.ghost_name
    pub spill : new.spill.ghost_name ≡ old.spill.ghost_name
    pub profile : new.profile.now ≡ old.profile.now
    pub label : new.label.now ≡ old.label.now

  -- these pieces were emitted
  pub record Keeps (old : Pieces S) (pieces : List (TileXyz × Shape)) (new : Pieces S) : Type 0 where
    pub same : IsSame old new
    pub emits : Emits {A = ⊤} old.profile.now (map (item_of old.label.now) pieces) (seen old.spill.now) (seen new.spill.now) old.buffer.now new.buffer.now (Ok tt)

  -- some were, and then one was refused
  pub record Stops (old new : Pieces S) (stop : SpillErr) : Type 0 where
    pub same : IsSame old new
    pub frames : Frames {A = ⊤} (seen old.spill.now) (seen new.spill.now) (Err stop)

  still-same : (a b c : Pieces S) → IsSame a b → IsSame b c → IsSame a c
  still-same a b c h k = record { buffer = k.buffer ∙ h.buffer; spill = k.spill ∙ h.spill; profile = k.profile ∙ h.profile; label = k.label ∙ h.label }

  pub keeps-none : (a : Pieces S) → Keeps a [] a
  keeps-none a = record { same = record { buffer = refl; spill = refl; profile = refl; label = refl }; emits = emits-none a.profile.now (seen a.spill.now) a.buffer.now }

  pub keeps-on : (a b c : Pieces S) (some more : List (TileXyz × Shape)) → Keeps a some b → Keeps b more c → Keeps a (some ++ more) c
  keeps-on a b c some more h k = record {
    same = still-same a b c h.same k.same;
    emits =
        let by = λ (p : Parts) (l : Label). Emits {A = ⊤} p (map (item_of l) more) (seen b.spill.now) (seen c.spill.now) b.buffer.now c.buffer.now (Ok tt) in
        let later = subst (by a.profile.now) h.same.label (subst (λ (p : Parts). by p b.label.now) h.same.profile k.emits) in
        emits-as a.profile.now (map (item_of a.label.now) some ++ map (item_of a.label.now) more) (map (item_of a.label.now) (some ++ more)) (seen a.spill.now) (seen c.spill.now) a.buffer.now c.buffer.now (Ok tt) (sym (map-append (item_of a.label.now) some more))
        (emits-on a.profile.now (map (item_of a.label.now) some) (map (item_of a.label.now) more) (seen a.spill.now) (seen b.spill.now) (seen c.spill.now) a.buffer.now b.buffer.now c.buffer.now tt (Ok tt) h.emits later);
  }

  pub stops-after : (a b c : Pieces S) (some : List (TileXyz × Shape)) (stop : SpillErr) → Keeps a some b → Stops b c stop → Stops a c stop
  stops-after a b c some stop h k = record {
    same = still-same a b c h.same k.same;
    frames = frames-on (seen a.spill.now) (seen b.spill.now) (seen c.spill.now) tt (Err stop) h.emits.frames k.frames;
  }
