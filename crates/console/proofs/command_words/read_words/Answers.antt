-- Which subcommand the words name, and what it asks for; and that only want of memory refuses words that are taken.
use Rattle.std.proofs.Common.{◌≡◌, map, string_bytes, subst, sym, true}
use Rattle.std.proofs.lemmas.Result.{IfOk-weaker}
use Rattle.lists.proofs.Results.{kept_fault}
use Rattle.clap.specs.Takes.{takes}
use Rattle.clap.specs.Words.{subcommand_of}
use Rattle.console.specs.declared.request.Request.{Request}
use Rattle.console.specs.CommandLine.{AsksFor, OnlyMemoryRefuses, plc_app}
use Rattle.console.proofs.Matching.{memory_refused_taken, named_by, none_named, refused_named}
use Rattle.console.proofs.command_words.read_words.Goals as goal

pub returns-in-Some-clause-ok : goal.returns-in-Some-clause-ok
returns-in-Some-clause-ok c =
    let words = map (λ word. string_bytes word) c.args.words.now in
    let named = named_by c.in_ok-command.command words c.in_ok-matches.matches c.subcommand.result c.in-Some.name c.in-Some.inner c.in-Some.is
    c.subcommand.ensures.name c.subcommand.ensures.rows c.in_ok-matches.ensures.ok.2 c.in_ok-command.ensures in
    IfOk-weaker c.request_of.result _ _ (λ (request : Request) asked. subst (λ found. AsksFor found request) named asked) c.request_of.ensures.ok

pub returns-in-Some-clause-refused : goal.returns-in-Some-clause-refused
returns-in-Some-clause-refused c =
    let words = map (λ word. string_bytes word) c.args.words.now in
    let named = named_by c.in_ok-command.command words c.in_ok-matches.matches c.subcommand.result c.in-Some.name c.in-Some.inner c.in-Some.is
    c.subcommand.ensures.name c.subcommand.ensures.rows c.in_ok-matches.ensures.ok.2 c.in_ok-command.ensures in
    refused_named c.request_of.result _ (subcommand_of plc_app words) (takes plc_app words ≡ true) named c.request_of.ensures.refused

pub returns-in_err-matches-clause-refused : goal.returns-in_err-matches-clause-refused
returns-in_err-matches-clause-refused c =
    let words = map (λ word. string_bytes word) c.args.words.now in
    kept_fault c.in_err-matches.field-0.0 (λ error. takes plc_app words ≡ true → OnlyMemoryRefuses (AsksFor (subcommand_of plc_app words)) error) _ c.from_residual-in_err-matches.ensures.1
    (λ taken x asked. c.in_err-matches.ensures.passes (subst (λ a. takes a words ≡ true) (sym c.in_ok-command.ensures) taken))

pub returns-in_err-error-in-None-clause-refused : goal.returns-in_err-error-in-None-clause-refused
returns-in_err-error-in-None-clause-refused c =
    let words = map (λ word. string_bytes word) c.args.words.now in
    memory_refused_taken (takes plc_app words ≡ true) (AsksFor (subcommand_of plc_app words)) _ c.from_residual-in_err-error-in-None.ensures.1

pub returns-clause-refused : goal.returns-clause-refused
returns-clause-refused c =
    let words = map (λ word. string_bytes word) c.args.words.now in
    let none = none_named c.in_ok-command.command words c.in_ok-matches.matches c.subcommand.result c.in-None.is c.subcommand.ensures.rows c.in_ok-matches.ensures.ok.2 c.in_ok-command.ensures in
    λ taken x asked. absurd (subst (λ found. AsksFor found x) none asked)
