-- `inverse_point` meets its contract: each field and argument in a local is read back from its bits, and each callee says its part.
use Rattle.std.proofs.Common.{to_z-of_z}
use Rattle.geometry.proofs.Integers.{i32_back}
use Rattle.geometry.proofs.transform.SurfaceTransform.inverse_point.Goals as goal

pub returns : goal.returns
returns c =
    let told = c.struct_told-1.given in
    let f = c.args.self in
    let m11 = i32_back f.m11_q16 told.0.1 in
    let m12 = i32_back f.m12_q16 told.1.0.1 in
    let m21 = i32_back f.m21_q16 told.1.1.0.1 in
    let m22 = i32_back f.m22_q16 told.1.1.1.0.1 in
    let tx = i32_back f.translate_x_milli told.1.1.1.1.0.1 in
    let ty = i32_back f.translate_y_milli told.1.1.1.1.1.0.1 in
    cc (m11, m12, m21, m22, tx, ty, to_z-of_z c.ranges.x_milli, to_z-of_z c.ranges.y_milli)
