use Rattle.std.proofs.Common.{◌≡◌, All, take}
use Rattle.mvt_codec.specs.declared.item.RunItem.{RunItem}
use Rattle.tile_model.proofs.order.tile_len.Given as goal

abbrev pub invariant-loop-len : goal.invariant-loop-len
invariant-loop-len l = All (λ (x : RunItem). x.key.tile ≡ l.tile) (take l.len l.items)
