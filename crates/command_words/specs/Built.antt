-- Which commands and which options are built.
use Rattle.std.specs.Prelude.{ℕ, List, [], ◌∷◌, map}
use Rattle.spec_words.specs.Table.{Row, answer_name, blocks, channels, cmr, codec, convert_name, count, crc, fmtp, group, interleaving, limit, list_name, max_blocks, modes, offer_limit, only, port, pt, reach, record_name, repeat, seed, seq, show, skip, sorting, ssrc, start, stream_name, strict, to_fmtp, to_pt, trial_name, ts, window}

abbrev pub commands : List (List ℕ)
commands =
    record_name ∷ stream_name ∷ convert_name ∷ answer_name ∷ list_name ∷ trial_name ∷ []

abbrev pub rows : List Row
rows =
    codec ∷ channels ∷ fmtp ∷ to_fmtp ∷ pt ∷ to_pt ∷ limit ∷ window ∷ reach ∷ max_blocks
    ∷ strict ∷ blocks ∷ group ∷ repeat ∷ skip ∷ cmr ∷ ssrc ∷ seq ∷ ts
    ∷ show ∷ start ∷ offer_limit ∷ modes ∷ crc ∷ sorting ∷ interleaving ∷ port
    ∷ count ∷ seed ∷ []

-- the rows as these commands have them
abbrev pub built : List Row
built = map (only commands) rows
