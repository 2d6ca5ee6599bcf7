-- A call that is no close and none of the router shows what its answer has to show: by cases, with the two groups that
-- are left out by premises.
use mathlib.Core.Path.{◌≡◌, refl}
use Rattle.calls.specs.declared.call.Call.{Call}
use Rattle.calls.specs.declared.call.CloseCall.{CloseCall}
use Rattle.calls.specs.declared.call.RouterCall.{RouterCall}
use Rattle.calls.specs.declared.call.Call.TheVariants as call
use Rattle.counter.specs.declared.answer.Answer.{Answer}
use Rattle.counter.specs.declared.step.Counter.{Counter}
use Rattle.answer_more.specs.More.{accepted_more}
use Rattle.answer_more.specs.Shown.{shown_more}

pub own_shown : (c : Call) (a : Answer) (k : Counter)
    → ((x : CloseCall) → c ≡ call.Close x → ⊥) → ((x : RouterCall) → c ≡ call.Router x → ⊥) → accepted_more c a k ≡ shown_more a.shown k.registry
own_shown (call.Panel x) a k no_close no_router = refl
own_shown (call.Input x) a k no_close no_router = refl
own_shown (call.ReleaseDevice x) a k no_close no_router = refl
own_shown (call.Shortcut x) a k no_close no_router = refl
own_shown (call.Arbitrate x) a k no_close no_router = refl
own_shown (call.Close x) a k no_close no_router = absurd (no_close x refl)
own_shown (call.Router x) a k no_close no_router = absurd (no_router x refl)
own_shown (call.Read x) a k no_close no_router = refl
