-- RULES.md, Counter table: its nine lines as one statement about the definitions that the contracts cite.
use Rattle.std.specs.Prelude.{◌≡◌, true, false, [], ◌∷◌, eqb, ltb, ℤ, pos, neg_ℤ, Some, None, Ok}
use Rattle.lists.specs.Tables.{packed}
use Rattle.lists.specs.Numbers.{max_u64}
use Rattle.geometry.specs.Claims.{from_minus500, scale, cancelling, geometry_with, point}
use Rattle.geometry.specs.Rect.{contains}
use Rattle.geometry.specs.Surface.{is_valid_geometry}
use Rattle.geometry.specs.Transform.{inverse_point}
use Rattle.handles.specs.declared.arena.SlotStatus.TheVariants.{Live}
use Rattle.handles.specs.declared.GenerationalHandle.{GenerationalHandle}
use Rattle.handles.specs.Handles.{same_handle}
use Rattle.maps.specs.declared.keys.CompositionPointerId.{CompositionPointerId}
use Rattle.composition_state.specs.declared.registry.CompositionRegistry.{CompositionRegistry}
use Rattle.records.specs.declared.shortcut.SurfaceShortcutRegistration.{SurfaceShortcutRegistration}
use Rattle.records.specs.declared.view.ViewRecord.{ViewRecord}
use Rattle.composition_state.specs.Damage.{is_sound}
use Rattle.records.specs.Errors.{number_of}
use Rattle.records.specs.Layers.{is_live}
use Rattle.records.specs.Surfaces.{surface_status}
use Rattle.records.specs.Views.{view_at, view_status}
use Rattle.composition_input.specs.Captures.{primary}
use Rattle.composition_input.specs.Focus.{own_view, set_focus}
use Rattle.composition_shortcuts.specs.Registrations.{Registrations}
use Rattle.composition_shortcuts.specs.Claims.{Observing, set_number}
use Rattle.composition_shortcuts.specs.Register.{registrations}
use Rattle.composition_close.specs.Claims.{Holds}
use Rattle.composition_close.specs.Close.{close_surface}
use Rattle.composition_soundness.specs.Claims.{Undamaged}
use Rattle.input_events.specs.declared.event.CompositionInput.{CompositionInput}
use Rattle.input_events.specs.declared.event.PointerInput.{PointerInput}
use Rattle.input_events.specs.declared.event.PlatformInputEvent.{PlatformInputEvent}
use Rattle.input_events.specs.declared.event.PlatformInputPayload.TheVariants.{Pointer, Composition}
use Rattle.input_events.specs.Claims.{PressureRows, TiltRows, SelectionRows}
use Rattle.input_router.specs.declared.router.PlatformInputRouter.{PlatformInputRouter}
use Rattle.counter_table.specs.Routes.{route_number, Arrives, Fits, PressureRouted, TiltRouted, SelectionRouted}
use Rattle.counter_table.specs.Examples.{panel_a, panel_b, watched, sixty_five, one_listed, contact_nine, held, unknown_view, new_router, pressed, selected}
use Rattle.composition_state.specs.Registry.{outcome_of}

-- the record of a panel's own view before the panel's close
abbrev pub before : CompositionRegistry → GenerationalHandle → ViewRecord
before r a = view_at r.views (own_view r a)

-- the same after the close
abbrev pub after : CompositionRegistry → GenerationalHandle → ViewRecord
after r a = view_at (close_surface r a).registry.views (own_view r a)

-- RULES.md, Counter table: each line in its own words, then as a statement
pub record CounterTable : Type 0 where
  -- "A rectangle from -500 that is 1,000 wide holds -500 and 499, not -501 or 500."
  pub rectangle : (contains from_minus500 (neg_ℤ (pos 500)) (pos 0) ≡ true)
      × (contains from_minus500 (pos 499) (pos 0) ≡ true)
      × (contains from_minus500 (neg_ℤ (pos 501)) (pos 0) ≡ false)
      × (contains from_minus500 (pos 500) (pos 0) ≡ false)
  -- "Scale 131,072 both ways: x 5 becomes 3, x -5 becomes -3."
  pub double_scale : (inverse_point (scale (pos 131072)) (pos 5) (pos 0) ≡ Some (point (pos 3) (pos 0)))
      × (inverse_point (scale (pos 131072)) (neg_ℤ (pos 5)) (pos 0) ≡ Some (point (neg_ℤ (pos 3)) (pos 0)))
  -- "Scale 1 both ways: x 32,767 becomes 2,147,418,112; x 32,768 is skipped."
  pub least_scale : (inverse_point (scale (pos 1)) (pos 32767) (pos 0) ≡ Some (point (pos 2147418112) (pos 0)))
      × (inverse_point (scale (pos 1)) (pos 32768) (pos 0) ≡ None)
  -- "m11 = m22 = 134,217,728, m12 = 134,217,729, m21 = 134,217,727: geometry accepted, always skipped."
  pub cancelling_matrix : (tx ty : ℤ) → (is_valid_geometry (geometry_with (cancelling tx ty)) ≡ true)
      × ((x y : ℤ) → inverse_point (cancelling tx ty) x y ≡ None)
  -- "Pressure 32,768 passes, 32,769 is 35. Tilt 90 passes, -91 is 36.": the payload's own test
  pub pressure_and_tilt : (p : PointerInput) → eqb p.contact 4294967295 ≡ false
      → PressureRows p × (ltb 32768 p.pressure_q15 ≡ false → TiltRows p)
  -- the same of `route`, for every event that passes the tests before the payload's
  pub pressure_routed : (r : CompositionRegistry) (t : PlatformInputRouter) (e : PlatformInputEvent) (p : PointerInput)
      → Arrives r t e → e.payload ≡ Pointer p → eqb p.contact 4294967295 ≡ false
      → PressureRouted r t e p × (ltb 32768 p.pressure_q15 ≡ false → TiltRouted r t e p)
  -- "Selection 2 to 3 in 3 bytes passes; 3 to 4 and 2 to 1 are 37.": the payload's own test
  pub selection : (c : CompositionInput) → c.length ≡ 3 → SelectionRows c
  -- the same of `route`
  pub selection_routed : (r : CompositionRegistry) (t : PlatformInputRouter) (e : PlatformInputEvent)
      (c : CompositionInput)
      → Arrives r t e → e.payload ≡ Composition c → c.length ≡ 3 → SelectionRouted r t e c
  -- "65 registrations on an Observe panel: 3; one there: 18; none: accepted."
  pub observe_panel : (r : CompositionRegistry) (h : GenerationalHandle) → Observing r h
      → ((t : Registrations) → t.len ≡ 65 → set_number r h t ≡ 3)
      × ((g : SurfaceShortcutRegistration) → set_number r h (packed registrations (g ∷ [])) ≡ 18)
      × ((r.revision ≡ max_u64 → ⊥) → set_number r h (packed registrations []) ≡ 0)
  -- "A live panel with an unknown view in set focus: 17."
  pub unknown_view_lem : (r : CompositionRegistry) (view h : GenerationalHandle) → is_sound r ≡ true
      → surface_status r.surfaces h ≡ Live
      → is_live (view_status r.views (own_view r h)) ≡ true → is_live (view_status r.views view) ≡ false
      → number_of (set_focus r view (Some h) r.revision).outcome ≡ 17
  -- "A closes while holding contact 9, B holding PRIMARY: the view's single capture field empties,
  -- B's map entry remains."
  pub captures_apart : (r : CompositionRegistry) (a b : GenerationalHandle) (p : CompositionPointerId)
      → Undamaged r → outcome_of (close_surface r a) ≡ Ok tt
      → same_handle a b ≡ false → p.contact ≡ 9 → Holds (before r a) p a → Holds (before r a) primary b
      → ((after r a).pointer_capture ≡ None) × Holds (after r a) primary b

-- The lines that speak of registries in general, each at a registry that calls lead to.
pub record CounterExamples : Type 0 where
  -- an Observe panel: 65 registrations, one, none
  pub observing : Observing watched panel_a
  pub observe_many : set_number watched panel_a sixty_five ≡ 3
  pub observe_one : set_number watched panel_a one_listed ≡ 18
  pub observe_none : set_number watched panel_a (packed registrations []) ≡ 0
  -- a live panel of a live view, with an unknown view in set focus
  pub sound : is_sound watched ≡ true
  pub live : surface_status watched.surfaces panel_a ≡ Live
  pub own_view : is_live (view_status watched.views (own_view watched panel_a)) ≡ true
  pub unknown : is_live (view_status watched.views unknown_view) ≡ false
  pub wrong_view : number_of (set_focus watched unknown_view (Some panel_a) watched.revision).outcome ≡ 17
  -- A closes while it holds contact 9, and B holds PRIMARY, also in the view's single field
  pub undamaged : Undamaged held
  pub closes : outcome_of (close_surface held panel_a) ≡ Ok tt
  pub a_holds : Holds (before held panel_a) contact_nine panel_a
  pub b_holds : Holds (before held panel_a) primary panel_b
  pub field_holds : (before held panel_a).pointer_capture ≡ Some panel_b
  pub field_empties : (after held panel_a).pointer_capture ≡ None
  pub b_remains : Holds (after held panel_a) primary panel_b
  -- pressure, tilt and selection in `route`'s answer: 0 is accepted
  pub arrives : Arrives watched new_router (pressed 32768 (pos 0) (pos 0))
  pub fits : Fits new_router (pressed 32768 (pos 0) (pos 0))
  pub pressures : (route_number watched new_router (pressed 32768 (pos 0) (pos 0)) ≡ 0)
      × (route_number watched new_router (pressed 32769 (pos 0) (pos 0)) ≡ 35)
  pub tilts_x : (route_number watched new_router (pressed 0 (pos 90) (pos 0)) ≡ 0)
      × (route_number watched new_router (pressed 0 (neg_ℤ (pos 91)) (pos 0)) ≡ 36)
  pub tilts_y : (route_number watched new_router (pressed 0 (pos 0) (pos 90)) ≡ 0)
      × (route_number watched new_router (pressed 0 (pos 0) (neg_ℤ (pos 91))) ≡ 36)
  pub selections : (route_number watched new_router (selected 2 3) ≡ 0)
      × (route_number watched new_router (selected 3 4) ≡ 37) × (route_number watched new_router (selected 2 1) ≡ 37)
