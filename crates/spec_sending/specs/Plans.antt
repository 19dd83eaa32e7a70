-- Which plans of sending are valid, B1 to B4 and B7 to B12: this project's own.
use Rattle.std.specs.Prelude.{◌≡◌, ℕ, ◌+◌, ◌*◌, Bool, true, false, not, ◌&&◌, ◌||◌, nat_eq, nat_lt, [], ◌∷◌, Option, Some, None, is_some, option_map}
use Rattle.amr_frame.specs.declared.codec.Codec.{Codec}
use Rattle.amr_frame.specs.declared.codec.Kind.{Kind}
use Rattle.amr_frame.specs.declared.codec.Kind.TheVariants.{Speech, Sid, Lost, Empty, Reserved}
use Rattle.amr_frame.specs.First.{when, first}
use Rattle.amr_frame.specs.Profiles.{group_bound, profile_fault}
use Rattle.amr_frame.specs.Tables.{kind_in}
use Rattle.spec_sending.specs.declared.fault.SendFault.{SendFault}
use Rattle.spec_sending.specs.declared.fault.SendFault.TheVariants as fault
use Rattle.spec_sending.specs.declared.plan.SendPlan.{SendPlan}

-- whether frames of a kind are speech
abbrev pub is_speech : Kind → Bool
is_speech Speech = true
is_speech Sid = false
is_speech Lost = false
is_speech Empty = false
is_speech Reserved = false

-- whether a codec mode request asks for no mode, or for a mode of the codec (RFC 4867, 4.3.1)
abbrev pub is_request : Codec → ℕ → Bool
is_request codec cmr = nat_lt cmr 16 && (nat_eq cmr 15 || is_speech (kind_in codec cmr))

-- the blocks of a group, and those of a packet with its repeats
abbrev pub grouped_blocks : SendPlan → ℕ
grouped_blocks s = s.blocks * s.length

abbrev pub carried_blocks : SendPlan → ℕ
carried_blocks s = s.blocks + s.repeat

-- whether a group or a packet has more blocks than the format's groups
abbrev pub passes_group : Option ℕ → SendPlan → Bool
passes_group None s = false
passes_group (Some most) s = nat_lt most (grouped_blocks s) || nat_lt most (carried_blocks s)

-- the first rule that a plan breaks: B1 to B4 of its format, or B7 to B12
abbrev pub plan_fault : SendPlan → Option SendFault
plan_fault s = first (
    option_map (λ why. fault.Profile why) (profile_fault s.profile)
    ∷ when (nat_eq s.blocks 0 || nat_lt s.profile.max_blocks (carried_blocks s)) fault.Blocks
    ∷ when (nat_eq s.length 0 || nat_lt 16 s.length) fault.Length
    ∷ when (nat_lt 1 s.length && not (is_some s.profile.interleaving)) fault.Length
    ∷ when (passes_group (group_bound s.profile.interleaving) s) fault.Group
    ∷ when (not (nat_eq s.repeat 0) && not (nat_eq s.length 1)) fault.Repeat
    ∷ when (not (is_request s.profile.codec s.cmr)) fault.Request
    ∷ when (nat_lt 127 s.pt) fault.Number ∷ [])

-- a valid plan breaks none
abbrev pub IsPlan : SendPlan → Type 0
IsPlan s = plan_fault s ≡ None
