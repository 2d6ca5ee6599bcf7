-- RULES.md, What a refusal has written, claimed of `step` for every counter, every call and every refusal.
use Rattle.std.specs.Prelude.{◌≡◌, true, Err}
use Rattle.handles.specs.declared.GenerationalHandle.{GenerationalHandle}
use Rattle.input_events.specs.declared.error.PlatformInputError.{PlatformInputError}
use Rattle.input_events.specs.declared.error.PlatformInputError.TheVariants.{Damaged}
use Rattle.input_events.specs.RouterErrors.{router_error_number}
use Rattle.input_releases.specs.Answers.{no_report}
use Rattle.calls.specs.declared.call.Call.{Call}
use Rattle.calls.specs.declared.call.Call.TheVariants.{Router, Read}
use Rattle.calls.specs.declared.call.Lists.{Lists}
use Rattle.calls.specs.declared.call.ReadCall.{ReadCall}
use Rattle.calls.specs.declared.call.RouterCall.TheVariants.{ReleaseSurface, ReleaseAll}
use Rattle.counter.specs.declared.step.Counter.{Counter}
use Rattle.counter.specs.Step.{stepped}
use Rattle.refusals.specs.Written.{Written, after_refusal, written_by, comes_with}

-- the call is refused with this error
abbrev pub IsRefused : Counter → Call → Lists → PlatformInputError → Type 0
IsRefused c call l e = (stepped c call l).answer.outcome ≡ Err e

-- what the refusal has written
abbrev pub written_with : Counter → Call → Lists → PlatformInputError → Written
written_with c call l e = written_by c call l (router_error_number e)

pub record StepRefusals : Type 0 where
  -- a refused call leaves registry and router as they came, but for what its case of RULES.md has
  -- written
  pub leaves : (c : Counter) (call : Call) (l : Lists) (e : PlatformInputError) → IsRefused c call l e
      → (stepped c call l).counter ≡ after_refusal c (written_with c call l e)
  -- and each case comes with its own numbers alone
  pub comes_with_lem : (c : Counter) (call : Call) (l : Lists) (e : PlatformInputError) → IsRefused c call l e
      → comes_with (written_with c call l e) (router_error_number e) ≡ true
  -- "unlisted": its report is blank, with no release
  pub unlisted : (c : Counter) (call : Call) (l : Lists) (e : PlatformInputError) → IsRefused c call l e
      → (stepped c call l).answer.report ≡ no_report
  -- "`release_surface` and `release_all` refuse 42 only"
  pub release_surface_lem : (c : Counter) (h : GenerationalHandle) (l : Lists) (e : PlatformInputError)
      → IsRefused c (Router (ReleaseSurface h)) l e → e ≡ Damaged
  pub release_all_lem : (c : Counter) (l : Lists) (e : PlatformInputError) → IsRefused c (Router ReleaseAll) l e → e
      ≡ Damaged
  -- a read alters nothing, refused or not
  pub read : (c : Counter) (call : ReadCall) (l : Lists) → (stepped c (Read call) l).counter ≡ c
