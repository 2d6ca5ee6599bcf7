-- RULES.md, Layers: panels of a view, from lowest to highest, are walked from the top, and a consumer ends the walk.
use Rattle.std.specs.Prelude.{Bool, true, false, cond, List, [], ◌∷◌, map, reverse, Option, None, Some}
use Rattle.lists.specs.Lists.{keep}
use Rattle.lists.specs.Tables.{packed}
use Rattle.handles.specs.declared.GenerationalHandle.{GenerationalHandle}
use Rattle.records.specs.declared.surface.SurfaceInputPolicy.{SurfaceInputPolicy}
use Rattle.records.specs.declared.surface.SurfaceInputPolicy.TheVariants.{Observe, Passthrough, Interactive, Exclusive}
use Rattle.records.specs.declared.trace.InputDelivery.{InputDelivery}
use Rattle.records.specs.Traces.{deliveries}
use Rattle.view_panels.specs.Panels.{Panel}
use Rattle.composition_arbitration.specs.declared.targets.Choice.{Choice}
use Rattle.composition_arbitration.specs.declared.walk.Verdict.{Verdict}
use Rattle.composition_arbitration.specs.declared.walk.Verdict.TheVariants.{Observing, NotTargeted, PassedThrough, Took, Blocks}
use Rattle.composition_arbitration.specs.declared.walk.Walked.{Walked}
use Rattle.composition_arbitration.specs.Targets.{is_targeted}

-- "Observe: always delivered, observed. Passthrough: delivered if targeted. Interactive: if targeted, delivered and
-- consumes. Exclusive: always
-- delivered and consumes."
abbrev pub verdict : SurfaceInputPolicy → Bool → Verdict
verdict Observe t = Observing
verdict Passthrough true = PassedThrough
verdict Passthrough false = NotTargeted
verdict Interactive true = Took
verdict Interactive false = NotTargeted
verdict Exclusive t = Blocks

abbrev pub delivers : Verdict → Bool
delivers Observing = true
delivers NotTargeted = false
delivers PassedThrough = true
delivers Took = true
delivers Blocks = true

abbrev pub consumes : Verdict → Bool
consumes Observing = false
consumes NotTargeted = false
consumes PassedThrough = false
consumes Took = true
consumes Blocks = true

abbrev pub observes : Verdict → Bool
observes Observing = true
observes NotTargeted = false
observes PassedThrough = false
observes Took = false
observes Blocks = false

-- the verdict of a panel: by its policy, and whether it is a target
unfoldable pub verdict_of : Choice → List GenerationalHandle → Panel → Verdict
verdict_of choice hits p =
    verdict p.descriptor.input (is_targeted choice hits p.surface p.descriptor.accepts_text)

abbrev pub delivery_from : Verdict → GenerationalHandle → InputDelivery
delivery_from v h = record { surface = h; observed = observes v }

-- the delivery of one panel, if its verdict delivers
abbrev pub delivered : Verdict → GenerationalHandle → List InputDelivery
delivered v h = cond (delivers v) (delivery_from v h ∷ []) []

module _ (at : Panel → Verdict) where
  -- the panels from the top on, up to the first that consumes, with it: "A consumer ends the walk."
  unfoldable pub until_consumed : List Panel → List Panel
  until_consumed [] = []
  until_consumed (p ∷ l) = p ∷ cond (consumes (at p)) [] (until_consumed l)

  -- the panels that are walked, of those from lowest to highest
  abbrev pub walked : List Panel → List Panel
  walked l = until_consumed (reverse l)

  -- what those walked are delivered
  abbrev pub deliveries_of : List Panel → List InputDelivery
  deliveries_of w = map (λ p. delivery_from (at p) p.surface) (keep (λ p. delivers (at p)) w)

  -- the last walked, if it consumes
  unfoldable pub consumer_of : List Panel → Option GenerationalHandle
  consumer_of [] = None
  consumer_of (p ∷ []) = cond (consumes (at p)) (Some p.surface) None
  consumer_of (p ∷ q ∷ l) = consumer_of (q ∷ l)

  unfoldable pub walk_of : List Panel → Walked
  walk_of l = record { deliveries = packed deliveries (deliveries_of (walked l)); consumed_by = consumer_of (walked l) }
