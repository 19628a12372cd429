use Rattle.std.proofs.Common.{append_assoc}
use Rattle.report.proofs.spell.FeedSpelled.spell.Goals as goal

pub returns : goal.returns
returns c =
    simp (
      c.push_hex-2.ensures.written,
      c.push-2.ensures.written,
      c.push_hex.ensures.written,
      c.push.ensures.written,
      c.push_decimal.ensures.written,
      c.new-text.ensures.written,
      c.shown_bits.ensures,
      c.shown_bits-2.ensures,
      append_assoc,
    )
