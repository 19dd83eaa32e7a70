-- A storage file as it is written has the places of its blocks.
use Rattle.std.proofs.Common.{◌≡◌, None, ℕ, suc, ◌+◌, ◌-◌, ◌*◌, ◌%◌, ◌<◌, ◌≤◌, Bool, true, false, cond, List, [], ◌∷◌, ◌++◌, length, get_or, sym, refl, ap, ◌∙◌, subst, arith}
use Rattle.std.specs.Prelude.{nat_eq, replicate}
use Rattle.std.specs.List.{flat_map, AllByRecursion}
use Rattle.std.proofs.lemmas.Bool.{eqb-true}
use Rattle.std.proofs.lemmas.List.{length-replicate}
use Rattle.std.proofs.lemmas.List.Concat.{flat_map-append}
use Rattle.amr_bits.proofs.Filled.{bits-whole, filled-lt, length-filled}
use Rattle.amr_bits.proofs.Runs.{run-all}
use Rattle.amr_bits.specs.Bits.{AreOctets, nat, bits_of, bits_at, filled, octets_for}
use Rattle.amr_bits.specs.Layout.{fixed, free, padded, fits}
use Rattle.amr_bits.proofs.Lists.{all_append}
use Rattle.amr_frame.specs.declared.codec.Codec.{Codec}
use Rattle.amr_frame.specs.Frames.{Frame, IsBlock}
use Rattle.spec_store.specs.StorageFile.{block_text, frame_text, multi, single, storage_file}
use Rattle.spec_store.specs.StorageGrammar.{IsFile, Single, Multi, block_layout, file_layout, header_layout, stored_layout}
use Rattle.spec_store.specs.StorageReading.{blocks_in, store_refusal}
use Rattle.store_laws.proofs.Headers.{fit_many, fit_one, magic_octets}
use Rattle.store_laws.proofs.Reading.{in_grammar}
use Rattle.store_laws.proofs.Stored.{fits_join, fits_self, free_fits, length-fixed}

-- the bits of filled octets
filled_bits : (bits : List Bool) → bits_of (filled bits) ≡ bits ++ replicate (8 * octets_for (length bits) - length bits) false
filled_bits bits =
    let c = 8 * octets_for (length bits) - length bits in
    let n = length-filled bits in
    let size : 8 * length (filled bits) ≡ length bits + c = omega (arith, n) in
    sym (run-all (filled bits)) ∙ ap (bits_at (filled bits) 0) size ∙ bits-whole bits c (omega arith)

frame_fits : (f : Frame) → fits (stored_layout f) (bits_of (frame_text f)) ≡ true
frame_fits f =
    let head = nat 4 f.ft ++ f.q ∷ [] in
    let pad = 8 * octets_for (length f.bits) - length f.bits in
    let zeros = replicate pad false in
    let same : bits_of (frame_text f) ≡ (false ∷ head ++ (false ∷ false ∷ [])) ++ (f.bits ++ zeros) =
    flat_map-append (nat 8) (filled (false ∷ head)) (filled f.bits) ∙ (λ i. filled_bits (false ∷ head) i ++ filled_bits f.bits i) in
    let n : length (fixed f.bits) ≡ length f.bits = length-fixed f.bits in
    let tail : fits (padded (fixed f.bits)) (f.bits ++ zeros) ≡ true =
    ap (λ k. fits (fixed f.bits ++ free (8 * octets_for k - k)) (f.bits ++ zeros)) n
    ∙ fits_join (fixed f.bits) (free pad) f.bits zeros (fits_self f.bits) (free_fits pad zeros (length-replicate pad false)) in
    let first : fits (free 1 ++ fixed head ++ free 2) (false ∷ head ++ (false ∷ false ∷ [])) ≡ true =
    fits_join (fixed head) (free 2) head (false ∷ false ∷ []) (fits_self head) refl in
    ap (fits (stored_layout f)) same ∙ fits_join (free 1 ++ fixed head ++ free 2) (padded (fixed f.bits)) (false ∷ head ++ (false ∷ false ∷ [])) (f.bits ++ zeros) first tail

block_fits : (block : List Frame) → fits (block_layout block) (bits_of (block_text block)) ≡ true
block_fits [] = refl
block_fits (f ∷ block) =
    ap (fits (block_layout (f ∷ block))) (flat_map-append (nat 8) (frame_text f) (block_text block))
    ∙ fits_join (stored_layout f) (block_layout block) (bits_of (frame_text f)) (bits_of (block_text block)) (frame_fits f) (block_fits block)

blocks_fit : (blocks : List (List Frame)) → fits (flat_map block_layout blocks) (bits_of (flat_map block_text blocks)) ≡ true
blocks_fit [] = refl
blocks_fit (b ∷ blocks) =
    let more = flat_map block_text blocks in
    ap (fits (flat_map block_layout (b ∷ blocks))) (flat_map-append (nat 8) (block_text b) more)
    ∙ fits_join (block_layout b) (flat_map block_layout blocks) (bits_of (block_text b)) (bits_of more) (block_fits b) (blocks_fit blocks)

pub written_file : (codec : Codec) (channels : ℕ) (blocks : List (List Frame)) → channels < 16 → AllByRecursion (IsBlock codec channels) blocks → IsFile codec channels blocks (storage_file codec channels blocks)
written_file codec channels blocks low are =
    let text = flat_map block_text blocks in
    let many = multi codec ++ (0 ∷ 0 ∷ 0 ∷ channels ∷ []) in
    elim (nat_eq channels 1) as (λ v. nat_eq channels 1 ≡ v → IsFile codec channels blocks (cond v (single codec) many ++ text)) [
      | true ↦ λ e. (
        Single,
        record {
          header = eqb-true channels 1 e;
          are_blocks = are;
          bits = ap (fits (file_layout codec Single channels blocks)) (flat_map-append (nat 8) (single codec) text)
              ∙ fits_join (header_layout codec Single channels) (flat_map block_layout blocks) (bits_of (single codec)) (bits_of text) (fit_one codec channels) (blocks_fit blocks);
        },
      )
      | false ↦ λ e. (
        Multi,
        record {
          header = tt;
          are_blocks = are;
          bits = ap (fits (file_layout codec Multi channels blocks)) (flat_map-append (nat 8) many text)
              ∙ fits_join (header_layout codec Multi channels) (flat_map block_layout blocks) (bits_of many) (bits_of text)
              (subst (λ n. fits (header_layout codec Multi n) (bits_of many) ≡ true) (let z : channels % 16 ≡ channels = omega arith in z) (fit_many codec 0 0 0 channels)) (blocks_fit blocks);
        },
      )
    ] refl

-- it is made of octets
octets_by : (xs : List ℕ) → ((k : ℕ) → get_or xs k 0 < 256) → AreOctets xs
octets_by [] h = tt
octets_by (x ∷ xs) h = (h 0, octets_by xs (λ k. h (suc k)))

octets_join : (a b : List ℕ) → AreOctets a → AreOctets b → AreOctets (a ++ b)
octets_join a b h k = all_append (λ o. o < 256) a b h k

frame_octets : (f : Frame) → AreOctets (frame_text f)
frame_octets f =
    let head = false ∷ nat 4 f.ft ++ f.q ∷ [] in
    octets_join (filled head) (filled f.bits) (octets_by (filled head) (filled-lt head)) (octets_by (filled f.bits) (filled-lt f.bits))

block_octets : (block : List Frame) → AreOctets (block_text block)
block_octets [] = tt
block_octets (f ∷ block) = octets_join (frame_text f) (block_text block) (frame_octets f) (block_octets block)

blocks_octets : (blocks : List (List Frame)) → AreOctets (flat_map block_text blocks)
blocks_octets [] = tt
blocks_octets (b ∷ blocks) = octets_join (block_text b) (flat_map block_text blocks) (block_octets b) (blocks_octets blocks)

pub file_octets : (codec : Codec) (channels : ℕ) (blocks : List (List Frame)) → channels < 16 → AreOctets (storage_file codec channels blocks)
file_octets codec channels blocks low =
    let text = flat_map block_text blocks in
    let magic = magic_octets codec in
    let many = multi codec ++ (0 ∷ 0 ∷ 0 ∷ channels ∷ []) in
    elim (nat_eq channels 1) as (λ v. AreOctets (cond v (single codec) many ++ text)) [
      | true ↦ octets_join (single codec) text magic.0 (blocks_octets blocks)
      | false ↦ octets_join many text (octets_join (multi codec) (0 ∷ 0 ∷ 0 ∷ channels ∷ []) magic.1 (omega arith, (omega arith, (omega arith, (omega arith, tt))))) (blocks_octets blocks)
    ]

pub written_back : (codec : Codec) (channels : ℕ) (blocks : List (List Frame)) → 1 ≤ channels → channels < 16 → AllByRecursion (IsBlock codec channels) blocks
    → (store_refusal codec channels (storage_file codec channels blocks) ≡ None) × (blocks_in codec channels (storage_file codec channels blocks) ≡ blocks)
written_back codec channels blocks some low are =
    in_grammar codec channels blocks (storage_file codec channels blocks) some low (file_octets codec channels blocks low) (written_file codec channels blocks low are)
