-- What a call shows beside its handle, its lists and its report.
use Rattle.std.specs.Prelude.{List, [], ◌∷◌, ◌++◌, Option, None, Some}
use Rattle.records.specs.Views.{view_at}
use Rattle.composition_state.specs.declared.registry.CompositionRegistry.{CompositionRegistry}
use Rattle.composition_hits.specs.HitTest.{view_hits}
use Rattle.calls.specs.declared.arguments.HitTestArguments.{HitTestArguments}
use Rattle.calls.specs.declared.shown.Counts.{Counts}
use Rattle.calls.specs.declared.shown.Shown.{Shown}
use Rattle.calls.specs.declared.shown.Shown.TheVariants as shown
use Rattle.answer_numbers.specs.Groups.{handle_numbers, metrics_numbers, input_state_numbers, descriptor_numbers, local_numbers}
use Rattle.answer_numbers.specs.Numbers.{Number, plain, list_numbers}
use Rattle.answer_numbers.specs.Traces.{traces_numbers}
use Rattle.answer_numbers.specs.Views.{captures_numbers, view_layers_numbers}

-- RULES.md, Hit test: the hits of a view at a point, topmost first: n, n × H
abbrev pub shown_hits : CompositionRegistry → HitTestArguments → List Number
shown_hits r a = list_numbers handle_numbers (view_hits r a.view a.point)

-- session H, epoch, revision, live windows, live views, live panels
abbrev pub shown_counts : Counts → List Number
shown_counts c =
    handle_numbers c.session
    ++ (plain c.session_epoch ∷ plain c.revision ∷ plain c.windows ∷ plain c.views ∷ plain c.surfaces
    ∷ [])

-- a window stands in column 7
abbrev pub shown_more : Shown → CompositionRegistry → Option (List Number)
shown_more shown.Nothing r = None
shown_more (shown.Window w) r = None
shown_more (shown.Metrics m) r = Some (metrics_numbers m)
shown_more (shown.InputState s) r = Some (input_state_numbers s)
shown_more (shown.Captures v) r = Some (captures_numbers (view_at r.views v).pointer_captures)
shown_more (shown.Descriptor d) r = Some (descriptor_numbers d)
shown_more (shown.Layers v) r = Some (view_layers_numbers (view_at r.views v).surfaces r.surfaces)
shown_more shown.Traces r = Some (traces_numbers r.traces)
shown_more (shown.Counts c) r = Some (shown_counts c)
shown_more (shown.BindingCount n) r = Some (plain n ∷ [])
shown_more (shown.Hits a) r = Some (shown_hits r a)
shown_more (shown.Local p) r = Some (local_numbers p)
