-- What is found for PRIMARY in a map that holds a list, and in those of it that pass a test; so the single field keeps to the map where both change.
use Rattle.std.specs.Prelude.{None, Some, Option}
use mathlib.Core.Path.{◌≡◌, refl, sym, ap, ◌∙◌}
use mathlib.Core.Bool.{Bool, true, false, cond}
use mathlib.Core.List.{List}
use Rattle.lists.specs.Lists.{keep, passed}
use Rattle.lists.specs.Maps.{lookup}
use Rattle.lists.specs.Tables.{entries_of, packed}
use Rattle.lists.proofs.ListLaws.{clash}
use Rattle.lists.proofs.TableLaws.{entries_packed}
use Rattle.handles.specs.Handles.{is_none}
use Rattle.handles.specs.declared.GenerationalHandle.{GenerationalHandle}
use Rattle.maps.specs.Captures.{captures, capture_key, PointerCaptures}
use Rattle.maps.specs.Keys.{pointer_key, key_same}
use Rattle.maps.specs.MapTables.{found, retained}
use Rattle.maps.specs.declared.captures.Capture.{Capture}
use Rattle.maps.specs.declared.keys.CompositionPointerId.{CompositionPointerId}
use Rattle.maps.specs.declared.keys.MapKey.{MapKey}
use Rattle.maps.proofs.MapTableLaws.{keys, claims}
use Rattle.records.specs.declared.view.ViewRecord.{ViewRecord}
use Rattle.records.specs.Views.{with_pointer_capture, with_pointer_captures}
use Rattle.composition_input.specs.Captures.{primary, is_primary, capture}
use Rattle.composition_soundness.proofs.ChangeLaws.{CaptureParts}
use Rattle.registry_book.proofs.AgreeLaws.{HasPrimary, Mapped}

pub none≢some {ℓ} : {P : Type ℓ} {h : GenerationalHandle} → None ≡ Some h → P
none≢some q = clash (ap is_none (sym q)) refl

pub same_panel : {g h : GenerationalHandle} → Some g ≡ Some h → g ≡ h
same_panel q = cc

pub primary_is : (q : CompositionPointerId) → is_primary q ≡ true → q ≡ primary
primary_is q s = ap (λ (k : MapKey). record { device = k.device; device_generation = k.generation; contact = k.code }) (sym (keys.same_eq (pointer_key primary) (pointer_key q) s))

-- ---- what is found
pub found_packed : (k : MapKey) (l : List Capture) → found captures capture_key k (packed captures l) ≡ lookup capture_key key_same k l
found_packed k l = ap (lookup capture_key key_same k) (entries_packed captures l)

pub found_kept : (t : PointerCaptures) → CaptureParts t → (p : Capture → Bool) (h : GenerationalHandle) → HasPrimary h t
    → found captures capture_key (pointer_key primary) (retained captures p t) ≡ cond (p (capture primary h)) (Some (capture primary h)) None
found_kept t x p h y =
    found_packed (pointer_key primary) (keep p (entries_of captures t)) ∙ (claims capture_key).find_kept p (pointer_key primary) (entries_of captures t) x.rise ∙ ap (passed p) y

-- ---- a record with other captures, and perhaps another single field
abbrev pub recaptured : Bool → Option GenerationalHandle → PointerCaptures → ViewRecord → ViewRecord
recaptured b m t v = cond b (with_pointer_capture m (with_pointer_captures t v)) (with_pointer_captures t v)

pub new_captures : (b : Bool) (m : Option GenerationalHandle) (t : PointerCaptures) (v : ViewRecord) → (recaptured b m t v).pointer_captures ≡ t
new_captures true m t v = refl
new_captures false m t v = refl

pub old_layers : (b : Bool) (m : Option GenerationalHandle) (t : PointerCaptures) (v : ViewRecord) → (recaptured b m t v).surfaces ≡ v.surfaces
old_layers true m t v = refl
old_layers false m t v = refl

pub still_mapped : (b : Bool) (m : Option GenerationalHandle) (t : PointerCaptures) (v : ViewRecord) → ((h : GenerationalHandle) → b ≡ true → m ≡ Some h → HasPrimary h t)
    → ((h : GenerationalHandle) → b ≡ false → v.pointer_capture ≡ Some h → HasPrimary h t) → Mapped (recaptured b m t v)
still_mapped true m t v f g h q = f h refl q
still_mapped false m t v f g h q = g h refl q
