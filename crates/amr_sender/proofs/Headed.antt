-- A packet as it is written is its header before its payload, where it has nothing else.
use Rattle.std.proofs.Common.{◌≡◌, ℕ, ◌+◌, ◌-◌, ◌≤◌, List, [], ◌++◌, length, take, drop, sym, ap, ◌∙◌, append-nil, arith, option_map}
use Rattle.std.proofs.lemmas.List.{append_assoc, drop_at, length-append, length-take-le, take_at}
use Rattle.std.proofs.Math.Seq.{take-append-add}
use borrow.Rule.Slice.PartMut.{post_of, put_mid}
use Rattle.amr_sender.specs.Packets.{IsPlainHeader}
use Rattle.rtp_packet.specs.View.{extension_of}
use Rattle.rtp_packet.specs.Written.{extension_octets, fixed_octets, octets_32, packet_of, padding_octets, written}
use Rattle.rtp_packet.specs.declared.fields.RtpFields.{RtpFields}
use Rattle.std.specs.Prelude.{flat_map}

-- its header is the fixed one, where it has nothing else
plainly : (f : RtpFields) (payload : List ℕ) → IsPlainHeader f
    → written (packet_of f payload) ≡ fixed_octets (packet_of f []) ++ payload
plainly f payload h =
    let sources : flat_map octets_32 f.sources.now ≡ [] = ap (flat_map octets_32) h.sources in
    let extension : extension_octets (option_map (λ e. extension_of e.0 e.1.now) f.extension) ≡ [] =
    ap (λ o. extension_octets (option_map (λ e. extension_of e.0 e.1.now) o)) h.extension in
    let padding : padding_octets f.padding ≡ [] = ap padding_octets h.padding in
    let fixed = fixed_octets (packet_of f []) in
    (λ i. fixed ++ sources i ++ extension i ++ payload ++ padding i)
    ∙ append-nil (fixed ++ payload)

pub headed : (f : RtpFields) (payload : List ℕ) → IsPlainHeader f
    → written (packet_of f payload) ≡ written (packet_of f []) ++ payload
headed f payload h =
    plainly f payload h
    ∙ ap (λ l. l ++ payload) (sym (plainly f [] h ∙ append-nil (fixed_octets (packet_of f []))))

-- the payload was written into the room, and then the header before it
pub begun_with : (f : RtpFields) (payload head room octets : List ℕ) (n : ℕ) → IsPlainHeader f → length head ≡ 12
    → length octets ≡ n
    → 12 ≤ length room → head ≡ written (packet_of f []) → octets ≡ payload
    → take (12 + n) (head ++ drop 12 (put_mid 12 (12 + n - 12) room octets)) ≡ written (packet_of f payload)
begun_with f payload head room octets n plain len size fits is said =
    let post = post_of 12 (12 + n - 12) room in
    let front = length-take-le 12 room fits in
    let rest : drop 12 (put_mid 12 (12 + n - 12) room octets) ≡ octets ++ post = drop_at (take 12 room)
    (octets ++ post) 12 front in
    let whole : length (head ++ octets) ≡ 12 + n = length-append head octets ∙ omega (arith, len, size) in
    ap (λ l. take (12 + n) (head ++ l)) rest
    ∙ ap (take (12 + n)) (sym (append_assoc head octets post))
    ∙ take_at (head ++ octets) post (12 + n) whole
    ∙ (λ i. is i ++ said i)
    ∙ sym (headed f payload plain)

-- the fixed header was written before a payload
pub header_before : (f : RtpFields) (payload head out : List ℕ) (n : ℕ) → IsPlainHeader f
    → head ≡ fixed_octets (packet_of f []) → take n (drop 12 out) ≡ payload
    → take (12 + n) (head ++ drop 12 out) ≡ written (packet_of f payload)
header_before f payload head out n plain is said =
    let size : length head ≡ 12 = ap length is in
    ap (λ m. take (m + n) (head ++ drop 12 out)) (sym size)
    ∙ take-append-add head (drop 12 out) n
    ∙ (λ i. is i ++ said i)
    ∙ sym (plainly f payload plain)
