-- The order of handles is a strict order, as that of pairs is, and the test of two handles tells whether they are equal.
use Prim.Native.Nat.{ℕ}
use mathlib.Core.Path.{◌≡◌, ap}
use Rattle.lists.specs.Orders.{Ordered}
use Rattle.lists.proofs.OrderLaws.{pair, through}
use Rattle.handles.specs.declared.GenerationalHandle.{GenerationalHandle}
use Rattle.handles.specs.Handles.{handle_of, handle_key, same_handle, handle_lt}

one_key : (a b : GenerationalHandle) → handle_key a ≡ handle_key b → a ≡ b
one_key a b e = ap (λ (k : ℕ × ℕ). handle_of k.0 k.1) e

pub handles : Ordered handle_lt same_handle
handles = through handle_key one_key pair
