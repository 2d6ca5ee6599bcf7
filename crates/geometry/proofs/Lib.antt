-- What the proofs of `geometry` share.
pub mod Logic
pub mod Integers
pub mod IntegerDeterminant
pub mod Halves
pub mod Exact
pub mod RangeTests
pub mod Truncated
pub mod Doubled
pub mod Nearest
pub mod UnderEpsilon
pub mod Fractions
pub mod FloatDeterminant
pub mod Claims
