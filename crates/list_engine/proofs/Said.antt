-- What a packet and a payload say, by the values that were read.
use Rattle.std.proofs.Common.{◌≡◌, ℕ, ◌<◌, ◌*◌, ◌/◌, Bool, true, false, cond, List, [], ◌++◌}
use Rattle.std.proofs.Common.{length, codes, decimal, refl, sym, append-nil, nat_lt, ap, ◌∙◌, Some}
use Rattle.std.proofs.Common.{None}
use mir.Val.{bool_byte}
use Rattle.std.proofs.lemmas.Bool.{lt-ltb}
use Rattle.std.proofs.Math.Nat.{mul-div_cancel}
use Rattle.amr_bits.specs.Bits.{filled, nat}
use Rattle.amr_bits.specs.Runs.{kept}
use Rattle.amr_frame.specs.Cells.{frame_of, held}
use Rattle.amr_frame.specs.Frames.{Frame}
use Rattle.amr_frame.specs.declared.cell.Cell.{Cell}
use Rattle.amr_toc.proofs.CheckPlaces.{viewed_at}
use Rattle.amr_toc.proofs.InView.{in_said}
use Rattle.amr_toc.proofs.Marked.{length-marked}
use Rattle.amr_toc.specs.Viewed.{format_of, frame_in, said, viewed}
use Rattle.amr_toc.specs.declared.view.PayloadView.{PayloadView}
use Rattle.hex.specs.Hex.{encode_lower}
use Rattle.list_engine.specs.Payloads.{bits_said, frames_said, payload_said}
use Rattle.payload_laws.proofs.Formats.{channels_of}
use Rattle.spec_listing.specs.Listing.{head_text}
use Rattle.spec_listing.specs.Payloads.{bit}
use Rattle.spec_listing.specs.Refusals.{field}
use Rattle.spec_packet.specs.Rtp.{RtpPacket}
use Rattle.spec_payload.specs.Reading.{checks_at}

-- a packet's header
pub head_said : (p : RtpPacket) (pt m seq ts : ℕ) (ssrc : List ℕ)
    → pt ≡ p.payload_type → m ≡ bit p.marker → seq ≡ p.sequence → ts ≡ p.timestamp
    → ssrc ≡ filled (nat 32 p.ssrc)
    → field (codes "pt") pt ++ field (codes "m") m ++ field (codes "seq") seq
    ++ field (codes "ts") ts ++ codes " ssrc=" ++ encode_lower ssrc ≡ head_text p
head_said p pt m seq ts ssrc a b c d e = λ i. field (codes "pt") (a i) ++ field (codes "m") (b i)
    ++ field (codes "seq") (c i) ++ field (codes "ts") (d i) ++ codes " ssrc="
    ++ encode_lower (e i)

-- a flag as an octet
pub byte_is : (b : Bool) → bool_byte b ≡ bit b
byte_is true = refl
byte_is false = refl

-- how many blocks a payload has, by how many frames they have in all
pub blocks_are : (view : PayloadView) (n : ℕ) → n * (format_of view).channels ≡ length
    (viewed view).frames
    → n ≡ length (said view).frames / (format_of view).channels
blocks_are view n is =
    let p = view.profile in
    let as_said : n * p.channels ≡ length (said view).frames = is ∙ length-marked p
    (said view).frames (checks_at p view.octets.now) in
    sym (mul-div_cancel n (channels_of p view.valid)) ∙ ap (λ m. m / p.channels) as_said

-- what a payload says
pub payload_is : (view : PayloadView) (cmr m mode stride index blocks : ℕ)
    → cmr ≡ (viewed view).cmr → m ≡ mode → stride ≡ (viewed view).stride
    → index ≡ (viewed view).index
    → blocks ≡ length (said view).frames / (format_of view).channels
    → field (codes "cmr") cmr ++ field (codes "mode") m ++ field (codes "stride") stride
    ++ field (codes "index") index ++ field (codes "blocks") blocks
    ++ codes " frames=" ++ frames_said view ≡ payload_said view mode
payload_is view cmr m mode stride index blocks a b c d e =
    λ i. field (codes "cmr") (a i) ++ field (codes "mode") (b i) ++ field (codes "stride") (c i)
    ++ field (codes "index") (d i) ++ field (codes "blocks") (e i)
    ++ codes " frames=" ++ frames_said view

-- the frame of a cell that holds one
held_is : (b : Bool) (f g : Frame) → cond b (Some f) None ≡ Some g → f ≡ g
held_is true f g h = cc
held_is false f g h = absurd cc

-- the bits of a frame, as it is seen and as it is said
pub bits_are : (view : PayloadView) (cell : Cell) (at : ℕ) → at < length (viewed view).frames
    → held cell ≡ Some (frame_in (viewed view) at)
    → kept cell.bits ≡ (frame_in (said view) at).bits
bits_are view cell at inside h =
    ap (λ (f : Frame). f.bits) (held_is cell.present (frame_of cell) (frame_in (viewed view) at) h)
    ∙ ap (λ (f : Frame). f.bits) (viewed_at view.profile view.octets.now at
    (in_said view at inside))

-- the text of a line of bits
abbrev pub bits_text : ℕ → List ℕ → List ℕ
bits_text at octets = codes "bits " ++ decimal at ++ codes " " ++ encode_lower octets ++ codes "\n"

-- the line of the bits of a frame that has some, and of one that hasn't
pub some_bits : (view : PayloadView) (at : ℕ) (bits : List Bool) (octets : List ℕ)
    → bits ≡ (frame_in (said view) at).bits → octets ≡ filled bits → 0 < length bits
    → bits_text at octets ≡ bits_said view at
some_bits view at bits octets is o some =
    ap (bits_text at) (o ∙ ap filled is)
    ∙ sym (ap (λ b. cond b (bits_text at (filled (frame_in (said view) at).bits)) [])
    (ap (λ (bs : List Bool). nat_lt 0 (length bs)) (sym is) ∙ lt-ltb 0 (length bits) some))

pub no_bits : (view : PayloadView) (at : ℕ) (bits : List Bool) (start : List ℕ)
    → bits ≡ (frame_in (said view) at).bits → length bits ≡ 0
    → start ≡ start ++ bits_said view at
no_bits view at bits start is none =
    sym (append-nil start)
    ∙ ap (λ b. start ++ cond b (bits_text at (filled (frame_in (said view) at).bits)) [])
    (sym (ap (λ (bs : List Bool). nat_lt 0 (length bs)) (sym is) ∙ ap (nat_lt 0) none))
