-- An accepted call leaves its change with the revision raised, which the book does not read; and what is to be shown of a change for the book to follow it.
use Rattle.records.specs.Errors.{Outcome}
use Rattle.std.specs.Prelude.{Some, Ok}
use Prim.Native.Nat.{ℕ, ◌+◌}
use mathlib.Core.Path.{◌≡◌, refl, sym, ap, ◌∙◌, subst}
use mathlib.Core.Bool.{true, cond}
use mathlib.Core.List.{List, [], map}
use Rattle.lists.specs.Lists.{all}
use Rattle.lists.specs.Tables.{entries_of}
use Rattle.lists.proofs.ListLaws.{and_left, and_right, and_both}
use Rattle.handles.specs.Handles.{same_handle}
use Rattle.handles.specs.Slots.{slot_at}
use Rattle.handles.specs.declared.GenerationalHandle.{GenerationalHandle}
use Rattle.maps.specs.Captures.{captures, capture_key, PointerCaptures}
use Rattle.maps.specs.Keys.{pointer_key}
use Rattle.maps.specs.MapTables.{found}
use Rattle.records.specs.Layers.{Layers, layers, is_live}
use Rattle.composition_state.specs.declared.registry.CompositionRegistry.{CompositionRegistry}
use Rattle.records.specs.declared.view.ViewRecord.{ViewRecord}
use Rattle.records.specs.Views.{ViewTable, no_view, view_at, view_slots, view_status, with_view}
use Rattle.composition_state.specs.Damage.{view_handle}
use Rattle.composition_state.specs.Registry.{with_revision, settled}
use Rattle.composition_state.proofs.SettleLaws.{accepted_is, settled_accepted}
use Rattle.composition_state.specs.Registry.{answered_with, outcome_of}
use Rattle.composition_state.proofs.SettleLaws.{outcome_is}
use Rattle.composition_input.specs.Captures.{primary, capture}
use Rattle.composition_input.specs.Focus.{with_view_record}
use Rattle.composition_arbitration.specs.Targets.{is_among}
use Rattle.composition_soundness.proofs.ListLaws.{field_kept, all_as}
use Rattle.book.specs.Book.{Held, Book, home_of}
use Rattle.registry_book.specs.Agreement.{is_open, view_of, in_view, held_at, held_in, is_held_well, Agrees, Follows}
use Rattle.registry_book.proofs.GatherLaws.{gather_same}

-- ---- an accepted call
module _ (P : CompositionRegistry → Type 0) (again : (n : ℕ) (c : CompositionRegistry) → P c → P (with_revision n c)) where
  pub settled_as : (o : Outcome) (r c : CompositionRegistry) → (settled o r c).outcome ≡ Ok tt → (o ≡ Ok tt → P c) → P (settled o r c).registry
  settled_as o r c q f = subst P (sym (accepted_is o r c q)) (again (c.revision + 1) c (f (settled_accepted o r c q)))

pub agrees_again : (b : Book) (n : ℕ) (c : CompositionRegistry) → Agrees c b → Agrees (with_revision n c) b
agrees_again b n c a = record {
  captures_held = a.captures_held;
  homes_known = a.homes_known;
  held_well = a.held_well;
  layered = a.layered;
  single_mapped = a.single_mapped;
}

pub follows : (b : Book) (o : Outcome) (r c : CompositionRegistry) → (settled o r c).outcome ≡ Ok tt → (o ≡ Ok tt → Follows r c b) → Follows r (settled o r c).registry b
follows b o r c q f = settled_as (λ x. Follows r x b) (λ n x y. record { agrees = agrees_again b n x y.agrees; keeps = record { stays = y.keeps.stays } }) o r c q f

-- a call that makes a value follows as one that makes none
pub made_follows : {T : Type 0} (v : T) (b : Book) (o : Outcome) (r c : CompositionRegistry) → outcome_of (answered_with v (settled o r c)) ≡ Ok tt → (o ≡ Ok tt → Follows r c b)
    → Follows r (settled o r c).registry b
made_follows v b o r c q f = follows b o r c (sym (outcome_is v (settled o r c)) ∙ q) f

-- ---- a change of the views, or of panels' records
abbrev pub layers_at : ViewTable → GenerationalHandle → List GenerationalHandle
layers_at t view = entries_of layers (view_at t view).surfaces

-- a panel's status and view stay
pub record SamePanels (r after : CompositionRegistry) : Type 0 where
  pub status : (h : GenerationalHandle) → is_open after h ≡ is_open r h
  pub view : (h : GenerationalHandle) → view_of after h ≡ view_of r h

-- a panel that is a layer of a live view stays one
abbrev pub LayersStay : ViewTable → ViewTable → Type 0
LayersStay t after = (view h : GenerationalHandle) → is_live (view_status t view) ≡ true → is_among h (layers_at t view) ≡ true
    → (is_live (view_status after view) ≡ true) × (is_among h (layers_at after view) ≡ true)

-- a panel in the single field has PRIMARY in the map
abbrev pub HasPrimary : GenerationalHandle → PointerCaptures → Type 0
HasPrimary h t = found captures capture_key (pointer_key primary) t ≡ Some (capture primary h)

abbrev pub Mapped : ViewRecord → Type 0
Mapped v = (h : GenerationalHandle) → v.pointer_capture ≡ Some h → HasPrimary h v.pointer_captures

abbrev pub AllMapped : ViewTable → Type 0
AllMapped t = (view : GenerationalHandle) → is_live (view_status t view) ≡ true → Mapped (view_at t view)

module _ (r after : CompositionRegistry) (b b' : Book) (a : Agrees r b) (same : SamePanels r after) where
  still_well : (x : Held) → is_held_well r x ≡ true → is_held_well after x ≡ true
  still_well x y =
      let h = x.capture.surface in
      and_both (same.status h ∙ and_left (is_open r h) (same_handle (view_of r h) x.view) y)
      (ap (λ (v : GenerationalHandle). same_handle v x.view) (same.view h) ∙ and_right (is_open r h) (same_handle (view_of r h) x.view) y)

  pub views_follow : held_in after.views ≡ b'.captures → b'.homes ≡ b.homes → all (is_held_well r) b'.captures ≡ true
      → LayersStay r.views after.views → AllMapped after.views → Follows r after b'
  views_follow has homes well stay mapped = record {
    agrees = record {
      captures_held = has;
      homes_known = λ h o. ap (home_of h) homes ∙ a.homes_known h (sym (same.status h) ∙ o) ∙ ap (λ (v : GenerationalHandle). Some v) (sym (same.view h));
      held_well = all_as (is_held_well r) (is_held_well after) still_well b'.captures well;
      layered = λ h o.
          let x = a.layered h (sym (same.status h) ∙ o) in
          subst (λ (v : GenerationalHandle). (is_live (view_status after.views v) ≡ true) × (is_among h (layers_at after.views v) ≡ true)) (sym (same.view h)) (stay (view_of r h) h x.0 x.1);
      single_mapped = λ view h l q. mapped view l h q;
    };
    keeps = record { stays = λ h o. (same.status h ∙ o, same.view h) };
  }

-- a view's record keeps its captures
module _ (t : ViewTable) (view : GenerationalHandle) (w : ViewRecord) (kept : w.pointer_captures ≡ (view_at t view).pointer_captures) where
  same_captures : (g : GenerationalHandle) → (view_at (with_view view w t) g).pointer_captures ≡ (view_at t g).pointer_captures
  same_captures g = field_kept (λ (v : ViewRecord). v.pointer_captures) t.records view.index g.index w no_view kept

  pub same_held : held_in (with_view view w t) ≡ held_in t
  unfolding held_in
  same_held = gather_same (held_at (with_view view w t)) (held_at t) (view_slots t) (λ i l.
      ap (λ (x : PointerCaptures). cond (slot_at t.arena i).filled (map (in_view (view_handle t i)) (entries_of captures x)) []) (same_captures (view_handle t i)))

module _ (r : CompositionRegistry) (b : Book) (a : Agrees r b) where
  -- the views stay whole
  pub panels_follow : (after : CompositionRegistry) → SamePanels r after → after.views ≡ r.views → Follows r after b
  panels_follow after same q = views_follow r after b b a same (ap held_in q ∙ a.captures_held) refl a.held_well
      (subst (LayersStay r.views) (sym q) (λ view h l m. (l, m)))
      (subst AllMapped (sym q) (λ view l h m. a.single_mapped view h l m))

  -- a view's record keeps its layers, single field and captures
  module _ (view : GenerationalHandle) (w : ViewRecord) (layered : w.surfaces ≡ (view_at r.views view).surfaces) (single : w.pointer_capture ≡ (view_at r.views view).pointer_capture)
      (mapped : w.pointer_captures ≡ (view_at r.views view).pointer_captures) where
    abbrev after : ViewTable
    after = with_view view w r.views

    same_layers : (g : GenerationalHandle) → (view_at after g).surfaces ≡ (view_at r.views g).surfaces
    same_layers g = field_kept (λ (v : ViewRecord). v.surfaces) r.views.records view.index g.index w no_view layered

    same_single : (g : GenerationalHandle) → (view_at after g).pointer_capture ≡ (view_at r.views g).pointer_capture
    same_single g = field_kept (λ (v : ViewRecord). v.pointer_capture) r.views.records view.index g.index w no_view single

    pub unread_follow : Follows r (with_view_record view w r) b
    unread_follow = views_follow r (with_view_record view w r) b b a (record { status = λ h. refl; view = λ h. refl }) (same_held r.views view w mapped ∙ a.captures_held) refl a.held_well
        (λ g h l m. (l, ap (λ (t : Layers). is_among h (entries_of layers t)) (same_layers g) ∙ m))
        (λ g l h q. subst (HasPrimary h) (sym (same_captures r.views view w mapped g)) (a.single_mapped g h l (sym (same_single g) ∙ q)))
