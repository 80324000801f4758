-- The order that is derived for keys is the order of keys.
use Rattle.std.proofs.Common.{◌≡◌, ℕ, ℤ, refl}
use Rattle.tb_types.specs.declared.element.Kind.{Kind}
use Rattle.tb_types.specs.declared.element.Kind.TheVariants.{Node, Way, Relation}
use Rattle.tb_types.specs.declared.element.Place.{Place}
use Rattle.mvt_codec.specs.declared.item.ItemKey.{ItemKey}
use Rattle.mvt_codec.specs.contracts.item.ItemKeyOrd.TheImpl.{ghosts}
use Rattle.tile_model.specs.Keys.{key_cmp}

abbrev made : ℕ → ℕ → ℤ → Kind → Place → ℕ → ItemKey
made tile layer order kind place rule = record { tile = tile; layer = layer; order = order; kind = kind; place = place; rule = rule }

by-kinds : (k l : Kind) (t u m n : ℕ) (o p : ℤ) (q s : Place) (r w : ℕ) → ghosts.cmp (made t m o k q r) (made u n p l s w) ≡ key_cmp (made t m o k q r) (made u n p l s w)
by-kinds Node Node t u m n o p q s r w = refl
by-kinds Node Way t u m n o p q s r w = refl
by-kinds Node Relation t u m n o p q s r w = refl
by-kinds Way Node t u m n o p q s r w = refl
by-kinds Way Way t u m n o p q s r w = refl
by-kinds Way Relation t u m n o p q s r w = refl
by-kinds Relation Node t u m n o p q s r w = refl
by-kinds Relation Way t u m n o p q s r w = refl
by-kinds Relation Relation t u m n o p q s r w = refl

pub derived : (a b : ItemKey) → ghosts.cmp a b ≡ key_cmp a b
derived a b = by-kinds a.kind b.kind a.tile b.tile a.layer b.layer a.order b.order a.place b.place a.rule b.rule
