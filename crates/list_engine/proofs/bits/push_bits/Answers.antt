use Rattle.std.proofs.Common.{◌++◌, ◌∙◌, ap, arith, codes, decimal}
use Rattle.amr_bits.specs.Runs.{kept}
use Rattle.hex.specs.Hex.{encode_lower}
use Rattle.list_engine.proofs.Said.{bits_are, no_bits, some_bits}
use Rattle.list_engine.proofs.Texts.{behind}
use Rattle.list_engine.proofs.bits.push_bits.Goals as goal

pub returns-then-len-gt0 : goal.returns-then-len-gt0
returns-then-len-gt0 c =
    let start = c.args.line.now in
    let at = decimal c.args.at in
    let cell = c.frame-cell.result in
    let hex = encode_lower c.as_octets.result.now in
    let size = c.len.ensures.bits in
    let above = c.if-len-gt0.true in
    let front = codes "bits " ++ at in record {
      text = behind start c.push_hex.new.line c.push-then-len-gt0.new.self
          (front ++ codes " " ++ hex) (codes "\n")
          (behind start c.push.new.self c.push_hex.new.line (front ++ codes " ") hex
          (behind start c.named.new.self c.push.new.self front (codes " ") c.named.ensures.text
          c.push.ensures)
          c.push_hex.ensures.text) c.push-then-len-gt0.ensures
          ∙ ap (λ t. start ++ t) (some_bits c.args.view.now c.args.at (kept cell.bits)
          c.as_octets.result.now
          (bits_are c.args.view.now cell c.args.at c.requires.frame c.frame-cell.ensures.frame)
          c.as_octets.ensures.bits (omega (arith, size, above)));
    }

pub returns-else-len-gt0 : goal.returns-else-len-gt0
returns-else-len-gt0 c =
    let cell = c.frame-cell.result in
    let size = c.len.ensures.bits in
    let none = c.if-len-gt0.false in record {
      text = no_bits c.args.view.now c.args.at (kept cell.bits) c.args.line.now
          (bits_are c.args.view.now cell c.args.at c.requires.frame c.frame-cell.ensures.frame)
          (omega (arith, size, none));
    }
