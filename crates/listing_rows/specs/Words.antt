-- The words of the worked examples of listings.
use Rattle.std.specs.Prelude.{ℕ, true, false, List, [], ◌∷◌, ◌++◌, None, codes, decimal}
use Rattle.amr_frame.specs.declared.profile.Profile.{Profile}
use Rattle.spec_listing.specs.Listing.{Listing, list_meaning, listing}
use Rattle.spec_modes.specs.ModeSets.{all_modes, greatest}
use Rattle.spec_run.specs.Meanings.{Meaning}
use Rattle.worked_rows.specs.Words.{packed, rtp}

-- a listing of any payload type, with a desk of all modes that starts at the greatest
abbrev pub listing_of : Profile → Listing
listing_of p = record {
  profile = p;
  asked = None;
  desk = record {
    codec = p.codec;
    modes = all_modes p.codec;
    neighbor = false;
    period = 1;
    start = greatest (all_modes p.codec);
  };
  bits = false;
}

-- the same with a desk of the modes 0, 2, 5 and 7 that moves to neighbours, once in so many steps
abbrev pub stepping : ℕ → Listing
stepping period = let l = listing_of packed in
    record l {
      desk = record l.desk { modes = 0 ∷ 2 ∷ 5 ∷ 7 ∷ []; neighbor = true; period = period };
    }

-- the listing of one record
abbrev pub listed : Profile → List ℕ → List ℕ
listed p octets = listing (listing_of p) (octets ∷ [])

-- a packet with this payload
abbrev pub one : List ℕ → List ℕ
one payload = rtp 0 0 0 payload

-- what listing any payload type of plain AMR means under a limit
abbrev pub meaning : ℕ → Meaning
meaning limit = list_meaning (listing_of packed) limit

-- the line of such a packet: its number and length, its fields, and what is told of its payload
abbrev pub line : ℕ → ℕ → List ℕ → List ℕ
line number len payload =
    decimal number ++ codes " " ++ decimal len
    ++ codes " pt=96 m=0 seq=0 ts=0 ssrc=00000000 " ++ payload
