-- `is_singular` meets its contract: entries are `i32`, so nothing overflows an `i64`, and the test on the bits is that on the integer.
use Rattle.std.proofs.Common.{to_z-of_z}
use Rattle.geometry.specs.Claims.{I32Entries}
use Rattle.geometry.proofs.Integers.{i32_fits, cast_fits, as_i64}
use Rattle.geometry.proofs.IntegerDeterminant.{mul_fits, determinant_fits, zero_bits}
use Rattle.geometry.proofs.surface.is_singular.Goals as goal

-- every matrix entry is an `i32`, as the struct's own fields say
entries : (c : goal.After-struct_told-4-1) → I32Entries c.args.transform
entries c =
    let told = c.struct_told-4-1.given in
    record {
      m11 = i32_fits _ told.0.1;
      m12 = i32_fits _ told.1.0.1;
      m21 = i32_fits _ told.1.1.0.1;
      m22 = i32_fits _ told.1.1.1.0.1;
    }

pub returns : goal.returns
returns c =
    let f = entries c in
    let left = mul_fits f.m11 f.m22 in
    let right = mul_fits f.m12 f.m21 in
    simp (as_i64 f.m11, as_i64 f.m12, as_i64 f.m21, as_i64 f.m22, to_z-of_z left, to_z-of_z right)
    (zero_bits _ (determinant_fits _ f))

pub overflow_sub-determinant : goal.overflow_sub-determinant
overflow_sub-determinant c =
    let f = entries c in
    let left = mul_fits f.m11 f.m22 in
    let right = mul_fits f.m12 f.m21 in
    simp (as_i64 f.m11, as_i64 f.m12, as_i64 f.m21, as_i64 f.m22, to_z-of_z left, to_z-of_z right)
    (determinant_fits _ f)
