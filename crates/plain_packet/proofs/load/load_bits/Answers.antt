use Rattle.std.proofs.Common.{◌-◌, ◌*◌, ◌/◌, ◌%◌, ◌^◌, ap, arith}
use Rattle.plain_packet.proofs.Cutting.{cut_bits, cut_clear}
use Rattle.plain_packet.proofs.Loading.{loaded, zeros_at}
use Rattle.plain_packet.proofs.load.load_bits.Goals as goal

pub put_full-requires-clause-zeros : goal.put_full-requires-clause-zeros
put_full-requires-clause-zeros c = zeros_at 60

pub invariant_of-result : goal.invariant_of-result
invariant_of-result c =
    let n = c.args.bits in
    let fill = 7 - (n - 1) % 8 in
    let cut = loaded c.args.payload.now c.put_full.new.out n (c.octet_at.result / 2 ^ fill * 2 ^ fill % 256) c.put_full.auto.out
    c.requires.some c.requires.most c.put_full.ensures (ap (λ x. x / 2 ^ fill * 2 ^ fill % 256) c.octet_at.ensures) in
    record {
      within = (let most = c.requires.most in omega (arith, most));
      clear = λ k past. cut_clear c.args.payload.now _ 10 n ((n - 1) / 8) fill k cut past;
    }

pub returns-clause-bits : goal.returns-clause-bits
returns-clause-bits c =
    let n = c.args.bits in
    let fill = 7 - (n - 1) % 8 in
    cut_bits c.args.payload.now _ 10 n ((n - 1) / 8) fill
    (loaded c.args.payload.now c.put_full.new.out n (c.octet_at.result / 2 ^ fill * 2 ^ fill % 256) c.put_full.auto.out
    c.requires.some c.requires.most c.put_full.ensures (ap (λ x. x / 2 ^ fill * 2 ^ fill % 256) c.octet_at.ensures))
