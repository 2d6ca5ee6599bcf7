-- `registrations_of` meets its contract: each entry is read.
use Rattle.std.proofs.Common.{rules, ◌≡◌, ℕ, List, length, map, sym, ap, ◌∙◌, arith}
use Rattle.std.specs.Array.{IsMapOf}
use Rattle.std.specs.Fn.{Called}
use denote.Param.Members.{Mut}
use lib.ListN.{length-map, get_or-map}
use lib.Seq.{ext_get_or}
use Rattle.call_fields.specs.Groups.{registration_of}
use Rattle.records.specs.declared.shortcut.SurfaceShortcutRegistration.{SurfaceShortcutRegistration}
use Rattle.host_message.proofs.registrations.registrations_of.Goals as goal

-- what a closure that computes h gave for each element of an array
mapped : {F A B : Type 0} {g : Mut F (A × Unit {0}) B} {f : F} (h : A → B) (d : A) (xs : List A) (ys : List B) (n : ℕ) → length xs ≡ n → IsMapOf g f xs ys n
    → ((p : F) (x : A) (y : B) (q : F) → Called g p (x, tt) y q → y ≡ h x) → ys ≡ map h xs
mapped h d xs ys n e m pure =
    ext_get_or (h d) ys (map h xs) (simp length-map (m.long ∙ sym e))
    (λ i l. let k = m.at i d (h d) (omega (arith, m.long)) in pure _ _ _ _ k.2 ∙ sym (get_or-map h xs i d))

pub returns : goal.returns
returns c =
    ap (λ (items : List SurfaceShortcutRegistration). record { items = items; len = c.args.numbers.len })
    (mapped registration_of (record { class_mask = 0; scope = 0; priority = 0 }) c.args.numbers.items c.map.result 64 (search rules) c.map.ensures.items (λ p x y q k. search rules))
