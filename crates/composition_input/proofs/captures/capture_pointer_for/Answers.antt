-- The checks and the view with the pointer, settled; a map that refused the pointer is not looked at.
use Rattle.composition_input.proofs.CaptureSettleLaws.{captured_settled}
use Rattle.composition_input.proofs.captures.capture_pointer_for.Goals as goal

pub returns : goal.returns
returns c =
    let a = c.args in
    rw (
      c.settle.ensures,
      c.with_view_record.ensures,
      c.with_captures-captured.ensures,
      c.is_primary.ensures,
      c.capture_refusal-refusal.ensures,
      c.unwrap_or-taken.ensures,
      c.insert.ensures,
      c.record-record.ensures,
      c.descriptor.ensures,
    ) (captured_settled a.registry a.pointer a.surface a.expected_revision)
