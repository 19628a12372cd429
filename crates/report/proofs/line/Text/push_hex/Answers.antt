use Rattle.std.proofs.Common.{rules}
use Rattle.std.specs.Str.{IsUtf8}
use Rattle.report.proofs.Hex.{hex_utf8}
use Rattle.report.proofs.line.Text.push_hex.Goals as goal

pub unwrap-requires : goal.unwrap-requires
unwrap-requires g c = let text : IsUtf8 c.hex_digits.result = rw c.hex_digits.ensures (hex_utf8 c.args.bits) in search rules
