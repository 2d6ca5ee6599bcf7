-- How a counter stands to the book between two calls, in two halves: what all routers over a registry share, and what is one router's.
-- And what one call has to show: its releases are those owed, none twice, and the book goes on standing so.
use Rattle.std.specs.Prelude.{Option, None, Some, Ok, Err}
use mathlib.Core.Path.{◌≡◌, refl, sym, ap, ◌∙◌, subst}
use mathlib.Core.Bool.{Bool, true, false, ◌||◌}
use mathlib.Core.List.{List, [], ◌∷◌}
use lib.Dec.{eqb}
use Rattle.lists.specs.Lists.{keep, all}
use Rattle.lists.specs.Maps.{rising}
use Rattle.lists.proofs.ListLaws.{by_test, and_left, and_right, and_both}
use Rattle.handles.specs.Handles.{same_handle}
use Rattle.handles.specs.declared.GenerationalHandle.{GenerationalHandle}
use Rattle.maps.specs.declared.bindings.Binding.{Binding}
use Rattle.records.specs.declared.error.CompositionError.{CompositionError}
use Rattle.records.specs.declared.error.CompositionError.TheVariants.{RevisionExhausted, GenerationExhausted}
use Rattle.composition_state.specs.declared.registry.CompositionRegistry.{CompositionRegistry}
use Rattle.records.specs.Errors.{error_number, Outcome}
use Rattle.composition_soundness.proofs.ListLaws.{all_as}
use Rattle.input_events.specs.declared.error.PlatformInputError.TheVariants.{Composition}
use Rattle.input_events.specs.RouterErrors.{router_number_of, from_composition}
use Rattle.input_router.specs.declared.router.PlatformInputRouter.{PlatformInputRouter}
use Rattle.input_router.specs.Router.{presses_of}
use Rattle.book.specs.Book.{Book, held_place, place_before, with_presses}
use Rattle.book.specs.Notes.{noted, note}
use Rattle.book.specs.Owed.{Concern, nothing, concern, is_same_press_of, is_same_release, none_twice, concerned_presses, concerned_captures, then_captures, owed_presses, owed_captures, owed}
use Rattle.registry_book.specs.Agreement.{is_open, Agrees, Keeps, KeepsBut}
use Rattle.counter.specs.declared.step.Counter.{Counter}
use Rattle.history.specs.Histories.{Entry}
use Rattle.history.specs.Demand.{closed_by, closed_in}
use Rattle.history.proofs.NumberLaws.{refused_number}

-- the panel that the last call closed
abbrev pub is_pending : Option GenerationalHandle → GenerationalHandle → Bool
is_pending None h = false
is_pending (Some g) h = same_handle g h

-- a press's panel is live, or was just closed
abbrev pub is_hosted : Option GenerationalHandle → CompositionRegistry → Binding → Bool
is_hosted p r x = is_open r x.surface || is_pending p x.surface

-- what all routers over a registry share: the book has its captures, in order, and its panels' views
pub record Shared (r : CompositionRegistry) (b : Book) : Type 0 where
  pub agrees : Agrees r b
  pub captures_rise : rising held_place place_before b.captures ≡ true

-- what is one router's: it holds exactly these presses, each on a panel that is live or was just closed
pub record Own (p : Option GenerationalHandle) (r : CompositionRegistry) (t : PlatformInputRouter) (l : List Binding) : Type 0 where
  pub presses : presses_of t ≡ l
  pub hosted : all (is_hosted p r) l ≡ true

pub record Joined (p : Option GenerationalHandle) (c : Counter) (b : Book) : Type 0 where
  pub shared : Shared c.registry b
  pub own : Own p c.registry c.router b.presses

-- a call with its answer, from a book, to a counter
pub record Right (e : Entry) (b : Book) (after : Counter) : Type 0 where
  pub listed : e.listed ≡ owed e.asked e.told b
  pub once : none_twice is_same_release e.listed ≡ true
  pub one_panel : none_twice is_same_press_of (owed_presses e.asked e.told b) ≡ true
  pub next : Joined (closed_in e) after (note e.asked e.told b)

-- the answers that the premises leave
pub record Allowed (e : Entry) : Type 0 where
  pub not_21 : e.told.number ≡ 21 → ⊥
  pub not_22 : e.told.number ≡ 22 → ⊥

none_once : {l : List Binding} (same : Binding → Binding → Bool) → l ≡ [] → none_twice same l ≡ true
unfolding none_twice
none_once same q = ap (none_twice same) q

-- a refused call lists nothing, and the book stays
pub refused : (e : Entry) (b : Book) (after : Counter) → eqb e.told.number 0 ≡ false → e.listed ≡ [] → Joined None after b → Right e b after
unfolding owed owed_presses owed_captures then_captures note
refused e b after n q j = record { listed = rw n q; once = none_once is_same_release q; one_panel = none_once is_same_press_of (rw n); next = rw n j }

-- what an accepted call lists
abbrev pub Owes : Entry → Book → Concern → Type 0
Owes e b c = e.listed ≡ then_captures (concerned_presses c b) (concerned_captures c b)

pub accepted : (e : Entry) (b : Book) (after : Counter) → eqb e.told.number 0 ≡ true → Owes e b (concern e.asked.call) → none_twice is_same_release e.listed ≡ true
    → none_twice is_same_press_of (concerned_presses (concern e.asked.call) b) ≡ true → Joined (closed_by e.asked.call) after (noted e.asked e.told b) → Right e b after
unfolding owed owed_presses owed_captures note
accepted e b after n q o m j = record { listed = rw n q; once = o; one_panel = rw n m; next = rw n j }

-- what concerns nothing lists nothing
pub nothing_owed : (e : Entry) (b : Book) (c : Concern) → c ≡ nothing → e.listed ≡ [] → Owes e b c
unfolding then_captures concerned_presses concerned_captures
nothing_owed e b c q l = rw q l

pub nothing_twice : (same : Binding → Binding → Bool) (b : Book) (c : Concern) → c ≡ nothing → none_twice same (concerned_presses c b) ≡ true
unfolding none_twice concerned_presses
nothing_twice same b c q = rw q

-- ---- live panels stay live
or_false : (b : Bool) → (b || false) ≡ b
or_false true = refl
or_false false = refl

or_true : (b : Bool) → (b || true) ≡ true
or_true true = refl
or_true false = refl

pub live : (r : CompositionRegistry) (x : Binding) → is_hosted None r x ≡ true → is_open r x.surface ≡ true
live r x h = sym (or_false (is_open r x.surface)) ∙ h

pub hosts : (p : Option GenerationalHandle) (r : CompositionRegistry) (x : Binding) → is_open r x.surface ≡ true → is_hosted p r x ≡ true
hosts p r x h = rw h

pub still_hosted : (r after : CompositionRegistry) (l : List Binding) → Keeps r after → all (is_hosted None r) l ≡ true → all (is_hosted None after) l ≡ true
still_hosted r after l k h = all_as (is_hosted None r) (is_hosted None after) (λ x t. hosts None after x (k.stays x.surface (live r x t)).0) l h

pub hosted_but : (g : GenerationalHandle) (r after : CompositionRegistry) (l : List Binding) → KeepsBut g r after → all (is_hosted None r) l ≡ true → all (is_hosted (Some g) after) l ≡ true
hosted_but g r after l k h = all_as (is_hosted None r) (is_hosted (Some g) after) (λ x t. by_test (same_handle g x.surface)
    (λ s. rw s (or_true (is_open after x.surface)))
    (λ s. hosts (Some g) after x (k.stays x.surface s (live r x t)).0)) l h

-- ---- a call on the registry that lists nothing
module _ (c : Counter) (b : Book) (j : Joined None c b) (e : Entry) (a : Allowed e) (after : CompositionRegistry) (unlisted : e.listed ≡ []) where
  abbrev next : Counter
  next = record { registry = after; router = c.router }

  registry_refused : (x : CompositionError) → e.told.number ≡ error_number x
      → ((x ≡ RevisionExhausted → ⊥) → (x ≡ GenerationExhausted → ⊥) → after ≡ c.registry) → Right e b next
  registry_refused x n stays =
      let same = stays (λ q. a.not_21 (n ∙ ap error_number q)) (λ q. a.not_22 (n ∙ ap error_number q)) in
      refused e b next (ap (λ k. eqb k 0) n ∙ refused_number (Composition x)) unlisted
      (subst (λ (r : CompositionRegistry). Joined None (record { registry = r; router = c.router }) b) (sym same) j)

  pub registry_right : (o : Outcome) → e.told.number ≡ router_number_of (from_composition o) → concern e.asked.call ≡ nothing
      → ((x : CompositionError) → o ≡ Err x → (x ≡ RevisionExhausted → ⊥) → (x ≡ GenerationExhausted → ⊥) → after ≡ c.registry)
      → (o ≡ Ok tt → Joined (closed_by e.asked.call) next (noted e.asked e.told b)) → Right e b next
  registry_right (Ok _) n owes stays goes =
      accepted e b next (ap (λ k. eqb k 0) n) (nothing_owed e b (concern e.asked.call) owes unlisted) (none_once is_same_release unlisted)
      (nothing_twice is_same_press_of b (concern e.asked.call) owes) (goes refl)
  registry_right (Err x) n owes stays goes = registry_refused x n (stays x refl)

-- ---- other presses
-- the registry says nothing of presses
pub shared_presses : (r : CompositionRegistry) (b : Book) (l : List Binding) → Shared r b → Shared r (with_presses l b)
shared_presses r b l s =
    let a = s.agrees in
    record {
      agrees = record { captures_held = a.captures_held; homes_known = a.homes_known; held_well = a.held_well; layered = a.layered; single_mapped = a.single_mapped };
      captures_rise = s.captures_rise;
    }

-- what is known of all, and passes a test
pub keep_so : {E : Type 0} (s p q : E → Bool) → ((e : E) → s e ≡ true → p e ≡ true → q e ≡ true) → (l : List E) → all s l ≡ true → all q (keep p l) ≡ true
keep_so s p q f [] h = refl
keep_so s p q f (e ∷ l) h =
    let rest = keep_so s p q f l (and_right (s e) (all s l) h) in
    by_test (p e) (λ t. rw t (and_both (f e (and_left (s e) (all s l) h) t) rest)) (λ t. rw t rest)
