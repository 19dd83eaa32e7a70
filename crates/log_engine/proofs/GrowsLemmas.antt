-- Octets that stay at the front.
use Rattle.std.proofs.Common.{◌≡◌, ℕ, List, [], ◌∷◌, ◌++◌, sym, append-nil, append_assoc, take-append-drop, drop, ap, ◌∙◌}
use Rattle.std.specs.Prelude.{Option, Result, Ok, Err, take, OnErr, OnOk}
use Rattle.std.proofs.lemmas.Result.{on_err_weaker}
use Rattle.std.specs.Io.KnownBytes.{Appends, Keeps}
use Rattle.std.proofs.KnownBytes.{Appends-nil, Appends-trans, Appends-kept}
use Rattle.amr_io.specs.Fault.{HasCause}
use Rattle.amr_io.specs.Told.{Writes, AppendsPart}
use Rattle.amr_io.specs.declared.sink.Sink as sink
use Rattle.log_engine.specs.Tray.{Grows}
use Rattle.log_engine.specs.Puts.{Puts, PutsPart}
use Rattle.log_engine.specs.Turns.{HandlerStep, SameSink}
use Rattle.log_engine.specs.declared.gather_sink.GatherSink.{GatherSink}
use Rattle.log_engine.specs.declared.handler.RecordHandler as handler

pub Grows-refl : (a : Option (List ℕ)) → Grows a a
Grows-refl a = ([], Appends-nil a)

pub Grows-through : (a b c : Option (List ℕ)) → Grows a b → Grows b c → Grows a c
Grows-through a b c p q = (p.0 ++ q.0, Appends-trans a b c p.0 q.0 p.1 q.1)

pub Keeps-Appends : (a b : Option (List ℕ)) → Keeps a b → Appends a b []
Keeps-Appends a b kept = Appends-kept a a b [] (Appends-nil a) kept

pub Grows-writes : {E : Type 0} (a b : Option (List ℕ)) (r : Result ℕ E) (bytes : List ℕ)
    → Writes a b r bytes → Grows a b
Grows-writes a b (Ok n) bytes wrote = (take n bytes, wrote.2)
Grows-writes a b (Err e) bytes kept = ([], Keeps-Appends a b kept)

-- all of it, and then nothing more, is a part
pub part_kept : {A E : Type 0} (a b c : Option (List ℕ)) (whole : List ℕ) (r : Result A E)
    → Appends a b whole → Keeps b c → OnErr r (PutsPart a c [] whole)
part_kept a b c whole (Ok x) put kept = _
part_kept a b c whole (Err e) put kept = record {
  part = whole;
  put = Appends-kept a b c whole put kept;
  within = ([], sym (append-nil whole));
}

-- what a record brings was put out whole
pub puts_whole : (a b : Option (List ℕ)) (before bytes after : List ℕ)
    → after ≡ before ++ bytes → Appends a b bytes → Puts a b before after
puts_whole a b before bytes after same put = record { more = bytes; put = put; grown = same }

-- a part of what a record brings was put out
pub puts_part : (a b : Option (List ℕ)) (before bytes after : List ℕ)
    → after ≡ before ++ bytes → AppendsPart a b bytes → PutsPart a b before after
puts_part a b before bytes after same part =
    let front : List ℕ = take part.0 bytes in
    let more : List ℕ = drop part.0 bytes in
    let split : before ++ bytes ≡ before ++ (front ++ more) =
    ap (λ l. before ++ l) (sym (take-append-drop part.0 bytes)) in
    record {
      part = front;
      put = part.2;
      within = (more, same ∙ split ∙ sym (append_assoc before front more));
    }

-- where what a record brings is written in one piece, a failed write put out a part of it
pub handle_failed : {A E : Type 0} (a b : Option (List ℕ)) (r : Result A E)
    (early : List (List ℕ) → List ℕ) (stands : List (List ℕ) → Type 0) (packet bytes : List ℕ)
    → ((hs : List (List ℕ)) → early (hs ++ packet ∷ []) ≡ early hs ++ bytes)
    → OnErr r (AppendsPart a b bytes)
    → OnErr r ((hs : List (List ℕ)) → stands hs
    → PutsPart a b (early hs) (early (hs ++ packet ∷ [])))
handle_failed a b r early stands packet bytes more part =
    let one = λ (p : AppendsPart a b bytes) (hs : List (List ℕ)) (_ : stands hs).
    puts_part a b (early hs) bytes (early (hs ++ packet ∷ [])) (more hs) p in
    on_err_weaker r one part

-- what is the same through two steps
pub same_through : {B : Type 0} (k : sink.Ghosts B)
    (law : (a b c : B) → k.same a b → k.same b c → k.same a c)
    (s0 s1 s2 : GatherSink B) → SameSink k s0 s1 → SameSink k s1 s2 → SameSink k s0 s2
same_through k law s0 s1 s2 p q = record {
  reference = q.reference ∙ p.reference;
  same = law s0.output.now s1.output.now s2.output.now p.same q.same;
  beside = q.beside ∙ p.beside;
  grows = Grows-through (k.got s0.output.now) (k.got s1.output.now) (k.got s2.output.now) p.grows
      q.grows;
}

-- what stays once a handler put something out and all was written
pub flushed_step : {H B X E : Type 0} (h : handler.Ghosts H) (k : sink.Ghosts B)
    (law : (a b c : B) → k.same a b → k.same b c → k.same a c)
    (by by' : H) (s0 s1 s2 : GatherSink B) (result : Result X E) → h.job by' ≡ h.job by
    → (s1.output.ghost_name ≡ s0.output.ghost_name) × k.same s0.output.now s1.output.now
    × Grows (k.got s0.output.now) (k.got s1.output.now)
    → k.beside s1.output.now ≡ k.beside s0.output.now → SameSink k s1 s2
    → HasCause (k.faults s0.output.now) (k.faults s2.output.now) result
    → OnOk result (s2.gather.now.waiting ≡ [])
    → HandlerStep h k by by' s0 s2 result
flushed_step h k law by by' s0 s1 s2 result job same beside flushed cause empty =
    let put : SameSink k s0 s1 =
    record { reference = same.0; same = same.1; beside = beside; grows = same.2 } in
    record {
      steady = record { job = job; same = same_through k law s0 s1 s2 put flushed };
      cause = cause;
      empty = empty;
    }
