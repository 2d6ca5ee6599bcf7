-- The claims about these calls, each by the laws of its subject.
use mathlib.Core.Path.{refl}
use Rattle.std.specs.Prelude.{None, Some}
use Rattle.lists.proofs.ListLaws.{some≢none}
use Rattle.composition_state.specs.Registry.{with_shortcuts}
use Rattle.composition_state.proofs.SettleLaws.{settles}
use Rattle.composition_shortcuts.specs.Register.{replaced, register_refusal, register_surface_system_shortcut_set}
use Rattle.composition_shortcuts.specs.Resolve.{winner, resolve_system_shortcut}
use Rattle.composition_shortcuts.specs.Claims.{ShortcutClaims}
use Rattle.composition_shortcuts.proofs.BitLaws.{bit_shared, shared_bit}
use Rattle.composition_shortcuts.proofs.WinnerLaws.{resolved_is, own, wins, none_counts, none_wins, one_winner}
use Rattle.composition_shortcuts.proofs.SetLaws.{empty_fits, stores, many_is, one_is, none_is}

pub claims : ShortcutClaims
unfolding resolve_system_shortcut register_surface_system_shortcut_set
claims = record {
  winner_wins = λ views s view mask l h e. wins views s view mask l h (resolved_is (own views s view mask l) (winner views s view mask l) (Some h) e);
  none_counts = λ views s view mask l e. none_counts views s view mask l (resolved_is (own views s view mask l) (winner views s view mask l) None e);
  none_wins = λ views s view mask l f h e. some≢none (resolved_is (own views s view mask l) (winner views s view mask l) (Some h) e) (none_wins views s view mask l f);
  one_winner = one_winner;
  bit_shared = bit_shared;
  shared_bit = shared_bit;
  set_settles = λ r h t n. settles (register_refusal r h t n) r (with_shortcuts (replaced h.index t r.shortcuts) r) refl;
  set_stores = stores;
  empty_fits = empty_fits;
  observe_many = many_is;
  observe_one = one_is;
  observe_none = none_is;
}
