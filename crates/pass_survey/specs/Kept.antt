-- The relations that are kept, and the ways that they need.
use Rattle.std.specs.Prelude.{ℕ, List, All, map, filter, flat_map}
use Rattle.tb_types.specs.declared.element.Kind.TheVariants as kinds
use Rattle.tb_types.specs.declared.element.OsmId.{OsmId}
use Rattle.osm_elements.specs.declared.element.RelEl.{RelEl}
use Rattle.osm_elements.specs.declared.element.Block.{Block}
use Rattle.profile_rules.specs.declared.parts.Parts.{Parts}
use Rattle.profile_rules.specs.Features.{specs_of}
use Rattle.profile_rules.specs.Sound.{IsSoundSpec}
use Rattle.member_sets.specs.declared.kept.KeptRelation.{KeptRelation}
use Rattle.tile_model.specs.Extract.{is_kept}
use Rattle.tile_model.specs.Relations.{way_ids}

-- a relation of a block: its place, its id, its member ways, and what the rules make of it
abbrev pub kept_of : Parts → ℕ → RelEl → KeptRelation
kept_of parts block r = record { place = record { block = block; index = r.index }; id = r.id; members = way_ids r.members; specs = specs_of parts r.tags kinds.Relation }

-- of the relations of a block those of which the rules make something
abbrev pub kept_in : Parts → ℕ → List RelEl → List KeptRelation
kept_in parts block relations = map (kept_of parts block) (filter (is_kept parts) relations)

-- of all relations, in file order
abbrev pub all_kept : Parts → List (ℕ × Block) → List KeptRelation
all_kept parts blocks = flat_map (λ (b : ℕ × Block). kept_in parts b.0 b.1.relations) blocks

-- the ways that relations need
abbrev pub members_of : List KeptRelation → List OsmId
members_of kept = flat_map (λ (k : KeptRelation). k.members) kept

-- each spec is one that the rules can make
abbrev pub IsSoundKept : Parts → KeptRelation → Type 0
IsSoundKept parts k = All (IsSoundSpec parts) k.specs
