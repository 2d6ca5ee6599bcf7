-- What passes the test is what its call is written as: the test decides whether two lists are the same.
use Rattle.std.proofs.Common.{◌≡◌, ℕ, List, true, sym, ap, ◌∙◌}
use Rattle.std.proofs.lemmas.Slice.Eq.{bytes_eq-Decides}
use Rattle.lists.specs.Lists.{pad}
use Rattle.calls.specs.declared.call.Call.{Call}
use Rattle.call_numbers.specs.Calls.{call_numbers, call_at}
use Rattle.call_numbers.specs.Fits.{FitsCall}
use Rattle.call_numbers.proofs.CallLaws.{call_number_claims}
use Rattle.call_forms.specs.Claims.{CallFormClaims}
use Rattle.call_forms.specs.Forms.{is_form}

written : Call → List ℕ
written c = pad 32 0 (call_numbers c)

forth : (l : List ℕ) → is_form l ≡ true → l ≡ written (call_at l)
unfolding is_form written
forth l h = (bytes_eq-Decides l (written (call_at l))).0 h

accepted : (c : Call) → FitsCall c → is_form (written c) ≡ true
unfolding is_form written
accepted c f = (bytes_eq-Decides (written c) (written (call_at (written c)))).1 (ap written (sym (call_number_claims.back c f)))

pub call_form_claims : CallFormClaims
unfolding written
call_form_claims = record {
  forth = λ l e h. forth l h;
  one_form = λ l m e g h k same. forth l h ∙ ap written same ∙ sym (forth m k);
  accepted = accepted;
}
