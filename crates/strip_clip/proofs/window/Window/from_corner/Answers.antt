use Rattle.std.proofs.Common.{ℤ, ◌-ℤ◌, w32, to_z, of_z, FitsSigned, ap, ◌∙◌, rules}
use Rattle.tb_types.specs.declared.location.Grid.{Grid}
use Rattle.strip_clip.proofs.Signed.{counted_is}
use Rattle.strip_clip.proofs.window.Window.from_corner.Goals as goal

pub returns : goal.returns
returns c =
    let p = c.args.p in
    let corner = c.args.self.corner in
    let px : FitsSigned w32 c.args.p.x = search rules in
    let py : FitsSigned w32 c.args.p.y = search rules in
    let cx : FitsSigned w32 c.args.self.corner.x = search rules in
    let cy : FitsSigned w32 c.args.self.corner.y = search rules in
    let made : ℤ → ℤ → Grid = λ x y. record { x = x; y = y } in
    ap (λ v. made v (to_z w32 (of_z w32 (to_z w32 (of_z w32 p.y) -ℤ to_z w32 (of_z w32 corner.y))))) (counted_is p.x corner.x c.args.self.buffer px cx c.args.self.narrow c.requires.x) ∙ ap (λ v. made (p.x -ℤ corner.x) v) (counted_is p.y corner.y c.args.self.buffer py cy c.args.self.narrow c.requires.y)
