use Rattle.std.proofs.Common.{◌≡◌, ◌∙◌, List, String, subst, inr, Ok, Err}
use Rattle.std.specs.Prelude.{IfErr, IfOk, Result}
use Rattle.std.specs.Process.{exit_status}
use Rattle.std.specs.declared.alloc.Global.{Global}
use Rattle.amr_cli.specs.Host.{HasRun}
use Rattle.amr_cli.specs.Runs.{run_of}
use Rattle.spec_words.specs.Words.{texts}
use Rattle.amr_cli.proofs.host.run_started.Goals as goal

-- the host gave words, since there are some
never_refused : {A E X K : Type 0} (args : Result A E) (r : Result X K) (words : X) (kind : E → K) (P : E → Type 0)
    → r ≡ Ok words → IfErr args (λ e. r ≡ Err (kind e)) → IfErr args P
never_refused (Ok a) r words kind P is refused = tt
never_refused (Err e) r words kind P is refused = absurd cc

if_ok_then : {A E : Type 0} (r : Result A E) (P Q : A → Type 0) → ((a : A) → P a → Q a) → IfOk r P → IfOk r Q
if_ok_then (Ok a) P Q f p = f a p
if_ok_then (Err e) P Q f p = tt

pub returns-in-Ok-clause-refused : goal.returns-in-Ok-clause-refused
returns-in-Ok-clause-refused g c = never_refused c.args.args c.words_of.result c.in-Ok.words _ _ c.in-Ok.is c.words_of.ensures.refused

pub returns-in-Ok-clause-ran : goal.returns-in-Ok-clause-ran
returns-in-Ok-clause-ran g c =
    let status = c.run_gateway.result in
    let code = exit_status c.code_of.result in
    let run = run_of g.I.Source g.O.Sink g.E.Sink c.args.input.now c.run_gateway.new.input c.args.output.now c.run_gateway.new.output c.args.notes.now c.run_gateway.new.notes status in
    let gave = c.run_gateway.ensures in
    if_ok_then c.args.args _ _
    (λ a is. inr (
      status,
      subst (λ (words : List (String Global)). HasRun (texts words) run code) (c.deref.ensures.value ∙ is) (record {
        usage = gave.usage;
        usage_noted = λ u. (gave.usage_leaves u).2;
        run = gave.run.0;
        ends = c.code_of.ensures;
      }),
    ))
    c.in-Ok.ensures.words
