-- What is made of kept relations.
use Rattle.std.specs.Prelude.{ℕ, Option, None, Some, List, All, length, map, filter_map}
use Rattle.tb_types.specs.Needs.{relation_need}
use Rattle.tb_types.specs.declared.element.Kind.TheVariants as kinds
use Rattle.tb_types.specs.declared.element.OsmId.{OsmId}
use Rattle.profile_rules.specs.declared.parts.Parts.{Parts}
use Rattle.profile_rules.specs.Sound.{IsSoundSpec}
use Rattle.ring_assembly.specs.declared.way.WayShape.{WayShape}
use Rattle.member_sets.specs.declared.kept.KeptRelation.{KeptRelation}
use Rattle.tile_model.specs.Features.{Feature}
use Rattle.tile_model.specs.Needs.{member_points}
use Rattle.tile_model.specs.Relations.{relation_shape}
use Rattle.tile_model.specs.Rows.{form_feature}
use Rattle.tile_model.specs.declared.world.Origin.{Origin}

abbrev pub kept_origin : KeptRelation → Origin
kept_origin k = record { kind = kinds.Relation; place = k.place; id = k.id }

-- the features of a kept relation, in the order of its specs
abbrev pub kept_features : Parts → (OsmId → Option WayShape) → KeptRelation → List Feature
kept_features parts shape_at k = filter_map (form_feature parts (kept_origin k) (relation_shape shape_at k.members)) k.specs

-- each spec is one that the rules can make
abbrev pub IsSoundKept : Parts → KeptRelation → Type 0
IsSoundKept parts k = All (IsSoundSpec parts) k.specs

-- the points of a way's shape, if it has one
abbrev pub points_if : Option WayShape → ℕ
points_if None = 0
points_if (Some way) = length way.points

abbrev pub points_at : (OsmId → Option WayShape) → OsmId → ℕ
points_at shape_at id = points_if (shape_at id)

-- what kept relations need
abbrev pub needs_of : (OsmId → Option WayShape) → List KeptRelation → List ℕ
needs_of shape_at kept = map (λ (k : KeptRelation). relation_need (member_points shape_at k.members)) kept
