use Rattle.std.proofs.Common.{◌≡◌, ◌+◌, ◌*◌, ◌/◌, ◌%◌, ◌++◌, length, map, arith, sym, ap, ◌∙◌, drop, take, [], ◌∷◌, ◌-◌, ◌^◌}
use Rattle.std.specs.List.{range_with_len}
use Rattle.std.proofs.lemmas.List.{take_rest, drop_all, append-nil, length-take-le, drop-drop}
use Rattle.std.proofs.lemmas.List.FromFn.{length-map-range_with_len}
use Rattle.amr_bits.specs.Bits.{number, number_at}
use Rattle.amr_bits.proofs.Runs.{run-drop}
use Rattle.amr_bits.proofs.Copied.{whole_octets, filled_even, filled_odd, last_set}
use Rattle.amr_bits.proofs.slice.BitSlice.copy_to.Goals as goal

pub returns-then-rest-gt0 : goal.returns-then-rest-gt0
returns-then-rest-gt0 c =
    let octets = c.args.self.now.octets.now in
    let start = c.args.self.now.start in
    let len = c.args.self.now.len in
    let m = len / 8 in
    let whole = map (λ k. number_at octets (8 * k + start) 8) (range_with_len 0 m) in
    let front : c.copy_octets.new.out ≡ whole = c.copy_octets.ensures ∙ ap (λ l. map (λ k. number_at l (8 * k + start % 8) 8) (range_with_len 0 (length (take m c.args.out.now)))) (take_rest octets (start / 8)) ∙ ap (λ n. map (λ k. number_at (drop (start / 8) octets) (8 * k + start % 8) 8) (range_with_len 0 n)) (length-take-le m c.args.out.now (omega arith)) ∙ whole_octets octets (start / 8) (start % 8) start m (omega arith) in
    let size : length c.copy_octets.new.out ≡ m = ap length front ∙ length-map-range_with_len (λ k. number_at octets (8 * k + start) 8) 0 m in
    let there : start + 8 * m ≡ start % 8 + 8 * (start / 8 + m) = omega arith in
    let v : c.few_from-last.result ≡ number_at octets (start + 8 * m) (len % 8) =
    c.few_from-last.ensures.spelt.bits ∙ ap (λ l. number_at l (start % 8) (len % 8)) (take_rest _ m ∙ ap (drop m) (take_rest octets (start / 8)) ∙ drop-drop m (start / 8) octets)
    ∙ ap number (run-drop octets (start / 8 + m) (start % 8) (start + 8 * m) (len % 8) there) in
    last_set c.copy_octets.new.out c.args.out.now m (c.few_from-last.result * 2 ^ (8 - len % 8) % 256) size (omega arith) ∙ ap (λ xs. xs ++ (c.few_from-last.result * 2 ^ (8 - len % 8) % 256 ∷ [])) front
    ∙ sym (filled_odd octets start len m (len % 8) c.few_from-last.result (omega arith) c.if-rest-gt0.true (omega arith) v)

pub returns-else-rest-gt0 : goal.returns-else-rest-gt0
returns-else-rest-gt0 c =
    let octets = c.args.self.now.octets.now in
    let start = c.args.self.now.start in
    let len = c.args.self.now.len in
    let m = len / 8 in
    let front : c.copy_octets.new.out ≡ map (λ k. number_at octets (8 * k + start) 8) (range_with_len 0 m) = c.copy_octets.ensures ∙ ap (λ l. map (λ k. number_at l (8 * k + start % 8) 8) (range_with_len 0 (length (take m c.args.out.now)))) (take_rest octets (start / 8)) ∙ ap (λ n. map (λ k. number_at (drop (start / 8) octets) (8 * k + start % 8) 8) (range_with_len 0 n)) (length-take-le m c.args.out.now (omega arith)) ∙ whole_octets octets (start / 8) (start % 8) start m (omega arith) in
    ap (λ xs. c.copy_octets.new.out ++ xs) (drop_all m c.args.out.now (omega arith)) ∙ append-nil c.copy_octets.new.out ∙ front ∙ sym (filled_even octets start len m (omega arith))
