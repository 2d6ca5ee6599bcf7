-- Each example holds by computing the book.
use mathlib.Core.Path.{refl}
use Rattle.book.specs.Book.{home_of, with_capture, without_captures, with_press, without_press, without_presses}
use Rattle.book.specs.Notes.{payload_change, router_change, change, changed, noted_panel, noted_input, noted_close, registered, noted, note}
use Rattle.book.specs.Owed.{payload_concern, router_concern, concern, panel_put, panels_of, panel_by_panel, concerned_presses, concerned_captures, then_captures, owed_presses, owed_captures, owed, without_concerned}
use Rattle.book.proofs.book_claims.Goals as goal

pub returns : goal.returns
unfolding home_of with_capture without_captures with_press without_press without_presses payload_change router_change change changed noted_panel noted_input noted_close registered noted note payload_concern router_concern concern panel_put panels_of panel_by_panel concerned_presses concerned_captures then_captures owed_presses owed_captures owed without_concerned
returns c =
    record {
      presses = λ l. record {
        receiver_consumes = refl;
        receiver_unobserved = refl;
        pointer_opens = refl;
        key_opens = refl;
        gamepad_opens = refl;
        repeat_leaves = refl;
        pointer_moves = refl;
        key_moves = refl;
        gamepad_moves = refl;
        moves_unlisted = refl;
        move_leaves = refl;
        no_receiver = refl;
        up_ends = refl;
        cancel_ends = refl;
        key_ends = refl;
        snapshot_ends = refl;
        others_stay = refl;
        unplugged_ends = refl;
        unfocused_ends = refl;
        hidden_ends = refl;
        panel_ends = refl;
        all_ends = refl;
        snapshot_unlisted = refl;
        snapshot_only = refl;
      };
      order = λ l. record {
        of_device = refl;
        of_device_all = refl;
        of_view = refl;
        of_hidden_view = refl;
        gain_lists_none = refl;
        gain_ends_none = refl;
        of_panel = refl;
        refused_lists_none = refl;
        refused_loss_lists_none = refl;
        pointers_by_device = refl;
        keys_by_device = refl;
        gamepads_by_device = refl;
        kind_after_kind = refl;
        captures_by_view = refl;
        captures_of_view = refl;
        pair_left_out = refl;
        other_panel_listed = refl;
        key_leaves_in = refl;
        panel_without_captures = refl;
        all_by_panel = refl;
      };
      notes = λ l. record {
        start_empty = refl;
        refused_up = refl;
        refused_down = refl;
        refused_attach = λ x. refl;
        refused_capture = refl;
        focus_noted_not = λ x y. refl;
        policy_noted_not = λ x y. refl;
        shortcut_noted_not = λ x y. refl;
        arbitration_noted_not = λ x y. refl;
        read_noted_not = λ x y. refl;
        shutdown_noted_not = λ x. refl;
        attach_noted = λ x. refl;
        capture_given = refl;
        primary_given = λ x. refl;
        capture_moves = refl;
        capture_by_view = refl;
        capture_by_pointer = refl;
        release_drops = refl;
        release_of_another = refl;
        device_drops = refl;
        suspend_drops = refl;
        close_drops = refl;
        unplugged_drops = refl;
        unfocused_drops = refl;
        up_lists_none = refl;
        wheel_lists_none = λ x. refl;
        panel_keeps_captures = refl;
        all_keeps_captures = refl;
      };
    }
