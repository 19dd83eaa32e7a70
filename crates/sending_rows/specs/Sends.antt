-- The octets and plans of the worked examples of sending.
use Rattle.std.specs.Prelude.{ℕ, Bool, not, ◌||◌, nat_eq, true, false, take, List, [], ◌∷◌, ◌++◌, replicate, map, None}
use Rattle.std.specs.List.{range_with_len}
use Rattle.amr_frame.specs.Frames.{Frame, no_data}
use Rattle.spec_sending.specs.declared.plan.SendPlan.{SendPlan}
use Rattle.spec_sending.specs.Left.{left}
use Rattle.spec_sending.specs.Sending.{heard_of, sendings, sent}
use Rattle.spec_session.specs.Packets.{packets_of}
use Rattle.spec_session.specs.Release.{released}
use Rattle.spec_session.specs.Session.{rules_of}
use Rattle.spec_packet.specs.Log.{cut}
use Rattle.spec_stream.specs.Streaming.{log_of_packets}
use Rattle.worked_rows.specs.Words.{frame, interleaved, magic, packed, plan, two_channels, zeros}

-- groups of two packets of two blocks
abbrev pub grouping : SendPlan
grouping = record (plan (interleaved 4)) { blocks = 2; length = 2 }

-- each block is sent again with the next one
abbrev pub repeating : SendPlan
repeating = record (plan packed) { repeat = 1 }

-- a silence descriptor and a frame of type 7, of zeros, and a silence descriptor as it is stored
abbrev pub silence : Frame
silence = frame 8 39 (zeros 5)

abbrev pub speech : Frame
speech = frame 7 244 (zeros 31)

abbrev pub stored_silence : List ℕ
stored_silence = 0x44 ∷ zeros 5

-- a small file of one channel, and the same frames as a block of two channels
abbrev pub small_file : List ℕ
small_file = magic ++ stored_silence ++ 0x7C ∷ []

abbrev pub small_pair : List ℕ
small_pair = two_channels ++ stored_silence ++ 0x7C ∷ []

-- the multichannel magic number of AMR, behind which the channel description stands
abbrev pub multi_magic : List ℕ
multi_magic = take 12 two_channels

-- blocks of one channel
abbrev pub blocks : List Frame → List (List Frame)
blocks frames = map (λ f. f ∷ []) frames

-- a short call
abbrev pub call : List (List Frame)
call = blocks (speech ∷ speech ∷ silence ∷ no_data ∷ no_data ∷ no_data ∷ silence ∷ speech ∷ [])

-- a call of 79 blocks: speech, silence, and speech again
abbrev pub long_call : List (List Frame)
long_call =
    blocks (replicate 50 speech ++ silence ∷ replicate 7 no_data ++ silence ∷ replicate 20 speech)

-- of eight packets, and of six, some that are left
abbrev pub five_of_eight : List Bool
five_of_eight = true ∷ false ∷ true ∷ true ∷ false ∷ true ∷ false ∷ true ∷ []

abbrev pub four_of_six : List Bool
four_of_six = true ∷ false ∷ true ∷ true ∷ false ∷ true ∷ []

-- all of n packets but the three that carry blocks 10, 30 and 60 for the first time
abbrev pub without_three : ℕ → List Bool
without_three n = map (λ k. not (nat_eq k 10 || nat_eq k 30 || nat_eq k 60)) (range_with_len 0 n)

-- what a session releases of the packets of a call that are left
abbrev pub repaired : SendPlan → List Bool → List (List Frame) → List (List Frame)
repaired s kept b =
    released (rules_of s.profile 256 45000) (map (heard_of s b) (left kept (sendings s b)))

-- the same of the octets of their log
abbrev pub read_back : SendPlan → List Bool → List (List Frame) → List (List Frame)
read_back s kept b =
    released (rules_of s.profile 256 45000)
    (packets_of s.profile None (cut (log_of_packets (left kept (sent s b)))).packets)
