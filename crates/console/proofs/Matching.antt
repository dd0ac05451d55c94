-- What is found for the words of the command line.
use Rattle.std.proofs.Common.{◌≡◌, ℕ, ◌<◌, ◌==◌, Bool, true, false, bytes_eq, codes, List, [], ◌∷◌, Option, Some, None, Result, Ok, Err, IfErr, option_map, map, unwrap_or, slice_index, refl, sym, ap, ap₂, ◌∙◌, subst, arith}
use Rattle.std.proofs.lemmas.Bool.{eqb-true}
use Rattle.std.specs.Borrow.{Bor}
use Rattle.std.specs.Option.{option_map_or}
use Rattle.std.specs.Result.{IsErrAnd}
use Rattle.std.specs.Char.{digit_value}
use Rattle.std.specs.Str.Parse.{digits_value}
use Rattle.clap.specs.Words.{App, AddsSubcommand, Row, app_of, with_subcommand, HasMatchesOf, rows_of, found_of, is_simple, subcommand_of, subcommand_name_of, subcommand_rows_of, first_of}
use Rattle.clap.specs.Values.{kind_of}
use Rattle.clap.specs.declared.error.Error.{Error}
use Rattle.clap.specs.declared.error.kind.ErrorKind.TheVariants.{OutOfMemory}
use Rattle.clap.specs.declared.builder.command.Command.{Command}
use Rattle.clap.specs.declared.parser.matches.ArgMatches.{ArgMatches}
use Rattle.clap.proofs.SimpleLemmas.{plain_fields}
use Rattle.console.specs.declared.request.TextRequest.TheVariants.{Eval, Check, Plan}
use Rattle.console.specs.declared.request.View.{View}
use Rattle.console.specs.declared.request.Way.{Way}
use Rattle.console.specs.declared.request.Color.{Color}
use Rattle.console.specs.declared.request.Strictness.{Strictness}
use Rattle.console.specs.declared.request.JournalFull.{JournalFull}
use Rattle.console.specs.declared.request.Pace.{Pace}
use Rattle.console.specs.declared.request.Restarts.{Restarts}
use Rattle.console.specs.declared.request.Request.{Request}
use Rattle.console.specs.declared.request.Request.TheVariants.{Text as OfText, Verify, Sim, Run, Node, Explain, Audit, Page}
use Rattle.text_commands.specs.Restarts.{AreRestarts}
use Rattle.console.specs.CommandLine.{AsksCertificate, AsksFor, AsksSecond, GivesColor, GivesEnd, GivesJournalFull, GivesJournalSize, GivesNumber, GivesOption, GivesPace, GivesRestarts, GivesStrictness, GivesView, GivesWay, IsNumber, OnlyMemoryRefuses, is_given, plc_app, restart_words}

-- a plus is no digit
pub plus_is_none : (text : List ℕ) → (slice_index text 0 == 43) ≡ true → IsNumber text → ⊥
plus_is_none [] plus number = absurd (omega (arith, number.0.0))
plus_is_none (c ∷ text) plus number =
    let is : c ≡ 43 = eqb-true c 43 plus in
    let low : digit_value 43 < 10 = subst (λ d. digit_value d < 10) is number.0.1.0 in
    absurd (omega (arith, low))

pub no_number : (otherwise : ℕ) (r : Option (Bor (List ℕ))) (v w : Option (List ℕ)) → option_map (λ s. s.now) r ≡ v → v ≡ w → r ≡ None → GivesNumber otherwise w otherwise
no_number otherwise r v w e f is = subst (λ t. GivesNumber otherwise t otherwise) (sym (ap (option_map (λ s. s.now)) is) ∙ e ∙ f) refl

pub one_number : (otherwise : ℕ) (r : Option (Bor (List ℕ))) (v w : Option (List ℕ)) (text : Bor (List ℕ)) (n : ℕ) → option_map (λ s. s.now) r ≡ v → v ≡ w → r ≡ Some text
    → IsNumber text.now × (n ≡ digits_value 10 text.now) → GivesNumber otherwise w n
one_number otherwise r v w text n e f is number = subst (λ t. GivesNumber otherwise t n) (sym (ap (option_map (λ s. s.now)) is) ∙ e ∙ f) number

pub no_word : (r : Option (Bor (List ℕ))) (v w : Option (List ℕ)) → option_map (λ s. s.now) r ≡ v → v ≡ w → r ≡ None → [] ≡ unwrap_or w []
no_word r v w e f is = subst (λ (t : Option (List ℕ)). [] ≡ unwrap_or t []) (sym (ap (option_map (λ s. s.now)) is) ∙ e ∙ f) refl

pub one_word : (r : Option (Bor (List ℕ))) (v w : Option (List ℕ)) (text : Bor (List ℕ)) → option_map (λ s. s.now) r ≡ v → v ≡ w → r ≡ Some text → text.now ≡ unwrap_or w []
one_word r v w text e f is = subst (λ (t : Option (List ℕ)). text.now ≡ unwrap_or t []) (sym (ap (option_map (λ s. s.now)) is) ∙ e ∙ f) refl

pub no_flag : (r : Option (Bor (List ℕ))) (v w : Option (List ℕ)) → option_map (λ s. s.now) r ≡ v → v ≡ w → r ≡ None → false ≡ option_map_or (λ text. bytes_eq text (codes "true")) w false
no_flag r v w e f is = subst (λ (t : Option (List ℕ)). false ≡ option_map_or (λ text. bytes_eq text (codes "true")) t false) (sym (ap (option_map (λ s. s.now)) is) ∙ e ∙ f) refl

pub some_flag : (r : Option (Bor (List ℕ))) (v w : Option (List ℕ)) (text : Bor (List ℕ)) (b : Bool) → option_map (λ s. s.now) r ≡ v → v ≡ w → r ≡ Some text → b ≡ bytes_eq text.now (codes "true")
    → b ≡ option_map_or (λ text. bytes_eq text (codes "true")) w false
some_flag r v w text b e f is same = subst (λ (t : Option (List ℕ)). b ≡ option_map_or (λ text. bytes_eq text (codes "true")) t false) (sym (ap (option_map (λ s. s.now)) is) ∙ e ∙ f) same

-- what is no number gives none
pub no_good_number : (otherwise : ℕ) (r : Option (Bor (List ℕ))) (v w : Option (List ℕ)) (text : Bor (List ℕ)) (error : Error) → option_map (λ s. s.now) r ≡ v → v ≡ w → r ≡ Some text → (IsNumber text.now → ⊥)
    → OnlyMemoryRefuses (GivesNumber otherwise w) error
no_good_number otherwise r v w text error e f is bad n gives =
    let given : w ≡ Some text.now = sym (e ∙ f) ∙ ap (option_map (λ s. s.now)) is in
    absurd (bad (subst (λ t. GivesNumber otherwise t n) given gives).0)

pub no_option : (r : Option (Bor (List ℕ))) (v w : Option (List ℕ)) → option_map (λ s. s.now) r ≡ v → v ≡ w → r ≡ None → GivesOption w None
no_option r v w e f is = subst (λ t. GivesOption t None) (sym (ap (option_map (λ s. s.now)) is) ∙ e ∙ f) tt

pub one_option : (r : Option (Bor (List ℕ))) (v w : Option (List ℕ)) (text : Bor (List ℕ)) (n : ℕ) → option_map (λ s. s.now) r ≡ v → v ≡ w → r ≡ Some text → IsNumber text.now × (n ≡ digits_value 10 text.now) → GivesOption w (Some n)
one_option r v w text n e f is number = subst (λ t. GivesOption t (Some n)) (sym (ap (option_map (λ s. s.now)) is) ∙ e ∙ f) number

pub no_good_option : (r : Option (Bor (List ℕ))) (v w : Option (List ℕ)) (text : Bor (List ℕ)) (error : Error) → option_map (λ s. s.now) r ≡ v → v ≡ w → r ≡ Some text → (IsNumber text.now → ⊥) → OnlyMemoryRefuses (GivesOption w) error
no_good_option r v w text error e f is bad n gives = by n (subst (λ t. GivesOption t n) (sym (e ∙ f) ∙ ap (option_map (λ s. s.now)) is) gives) where
  by : (n : Option ℕ) → GivesOption (Some text.now) n → kind_of error ≡ OutOfMemory
  by None gives = absurd gives
  by (Some n) gives = absurd (bad gives.0)

-- a command with one more subcommand, which has no global argument
pub one_more : (old sub new : Command) (a b : App) → AddsSubcommand old sub new → app_of old ≡ a → app_of sub ≡ b → b.top.is_plain ≡ true → app_of new ≡ with_subcommand a b.top
one_more old sub new a b adds old_is sub_is plain =
    adds.shape (plain_fields sub (ap (λ (x : App). x.top.is_plain) sub_is ∙ plain)).globals ∙ ap₂ with_subcommand old_is (ap (λ (x : App). x.top) sub_is)

pub no_words : (r : Option (Bor (List (Bor (List ℕ))))) (v w : Option (List (List ℕ))) → option_map (λ s. map (λ x. x.now) s.now) r ≡ v → v ≡ w → r ≡ None → [] ≡ unwrap_or w []
no_words r v w e f is = subst (λ (t : Option (List (List ℕ))). [] ≡ unwrap_or t []) (sym (ap (option_map (λ s. map (λ x. x.now) s.now)) is) ∙ e ∙ f) refl

pub some_words : (r : Option (Bor (List (Bor (List ℕ))))) (v w : Option (List (List ℕ))) (words : Bor (List (Bor (List ℕ)))) → option_map (λ s. map (λ x. x.now) s.now) r ≡ v → v ≡ w → r ≡ Some words
    → map (λ x. x.now) words.now ≡ unwrap_or w []
some_words r v w words e f is = subst (λ (t : Option (List (List ℕ))). map (λ x. x.now) words.now ≡ unwrap_or t []) (sym (ap (option_map (λ s. map (λ x. x.now) s.now)) is) ∙ e ∙ f) refl

both_parts : {A : Type 0} (s : Option A) (f : A → List ℕ) (g : A → List Row) (name : List ℕ) (found : List Row) → Some name ≡ option_map f s
    → Some found ≡ option_map (λ (p : List ℕ × List Row). p.1) (option_map {U = List ℕ × List Row} (λ b. (f b, g b)) s) → option_map {U = List ℕ × List Row} (λ b. (f b, g b)) s ≡ Some (name, found)
both_parts None f g name found e h = cc
both_parts (Some x) f g name found e h = let same : name ≡ f x = cc in let rows : found ≡ g x = cc in rw (same, rows) refl

-- the subcommand that was entered, with what was found for it
pub entered : (m : ArgMatches) (r : Option (Bor (List ℕ) × Bor ArgMatches)) (name : Bor (List ℕ)) (inner : Bor ArgMatches) → r ≡ Some (name, inner)
    → option_map (λ p. p.0.now) r ≡ subcommand_name_of m → option_map (λ p. rows_of (found_of p.1.now)) r ≡ option_map (λ p. p.1) (subcommand_rows_of m)
    → subcommand_rows_of m ≡ Some (name.now, rows_of (found_of inner.now))
entered m r name inner is named found =
    both_parts _ _ _ name.now (rows_of (found_of inner.now)) (sym (ap (option_map (λ p. p.0.now)) is) ∙ named) (sym (ap (option_map (λ p. rows_of (found_of p.1.now))) is) ∙ found)

-- the words of the command line name this subcommand, with what was found for it
pub named_by : (command : Command) (words : List (List ℕ)) (m : ArgMatches) (r : Option (Bor (List ℕ) × Bor ArgMatches)) (name : Bor (List ℕ)) (inner : Bor ArgMatches) → r ≡ Some (name, inner)
    → option_map (λ p. p.0.now) r ≡ subcommand_name_of m → option_map (λ p. rows_of (found_of p.1.now)) r ≡ option_map (λ p. p.1) (subcommand_rows_of m)
    → HasMatchesOf (app_of command) words m → app_of command ≡ plc_app → Some (name.now, rows_of (found_of inner.now)) ≡ subcommand_of plc_app words
named_by command words m r name inner is named found has app_is =
    sym (entered m r name inner is named found) ∙ (has (ap is_simple app_is)).1 ∙ ap (λ (a : App). subcommand_of a words) app_is

-- texts that a test tells apart aren't equal
unlike : (a b : List ℕ) → bytes_eq a a ≡ true → bytes_eq b a ≡ false → a ≡ b → ⊥
unlike a b same other h = let bad : true ≡ false = sym same ∙ ap (λ t. bytes_eq t a) h ∙ other in let no : ⊥ = cc in no

-- where memory was refused, so it is
pub memory_refused : {T X : Type 0} (asks : X → Type 0) (r : Result T Error) → IsErrAnd r (λ e. kind_of e ≡ OutOfMemory) → IfErr r (OnlyMemoryRefuses asks)
memory_refused asks (Ok x) is = tt
memory_refused asks (Err e) is = λ x asked. is

pub memory_refused_taken : {T X : Type 0} (P : Type 0) (asks : X → Type 0) (r : Result T Error) → IsErrAnd r (λ e. kind_of e ≡ OutOfMemory) → IfErr r (λ error. P → OnlyMemoryRefuses asks error)
memory_refused_taken P asks (Ok x) is = tt
memory_refused_taken P asks (Err e) is = λ taken x asked. is

-- what a name asks for is what the words ask for
pub refused_named : {T : Type 0} (r : Result T Error) (a b : Option (List ℕ × List Row)) (P : Type 0) → a ≡ b → IfErr r (OnlyMemoryRefuses (AsksFor a)) → IfErr r (λ error. P → OnlyMemoryRefuses (AsksFor b) error)
refused_named (Ok x) a b P same refused = tt
refused_named (Err e) a b P same refused = λ taken. subst (λ found. OnlyMemoryRefuses (AsksFor found) e) same refused

-- where only memory refuses a part of what is asked for, it alone refuses all
pub part_refused : {X Y : Type 0} (asks : X → Type 0) (gives : Y → Type 0) (e : Error) → ((x : X) → asks x → (y : Y) × gives y) → OnlyMemoryRefuses gives e → OnlyMemoryRefuses asks e
part_refused asks gives e part refused x asked = let found = part x asked in refused found.0 found.1

-- what `eval` gives by its options
pub eval_parts : (found : List Row) (r : Request) → AsksFor (Some (codes "eval", found)) r
    → (n : ℕ) × (v : View) × (c : Color) × (s : Strictness) × GivesNumber 0 (first_of (codes "dt") found) n × GivesView (is_given (codes "show") found) (is_given (codes "chart") found) v × GivesColor (first_of (codes "color") found) c
    × GivesStrictness (is_given (codes "strict") found) (is_given (codes "no-warnings") found) s × (scans : List ℕ) × AreRestarts (restart_words found) scans × (w : Option (Bor (List ℕ))) × AsksSecond found w
eval_parts found (OfText (Eval drawing dt view color files strictness words program restarts second)) asked = (dt, view, color, strictness, asked.1.1, asked.1.2, asked.1.3, asked.1.6, restarts.items, asked.1.8, second, asked.1.9)
eval_parts found (OfText (Check plant strictness)) asked = absurd (unlike (codes "eval") (codes "check") refl refl asked.0)
eval_parts found (OfText (Plan plant until form)) asked = absurd (unlike (codes "eval") (codes "plan") refl refl asked.0)
eval_parts found (Verify verify) asked = absurd (unlike (codes "eval") (codes "verify") refl refl asked.0)
eval_parts found (Sim sim) asked = absurd (unlike (codes "eval") (codes "sim") refl refl asked.0)
eval_parts found (Run run) asked = absurd (unlike (codes "eval") (codes "run") refl refl asked.0)
eval_parts found (Node node) asked = absurd (unlike (codes "eval") (codes "node") refl refl asked.0)
eval_parts found (Explain kind) asked = absurd (unlike (codes "eval") (codes "explain") refl refl asked.0)
eval_parts found (Audit audit) asked = absurd (unlike (codes "eval") (codes "audit") refl refl asked.0)
eval_parts found (Page file) asked = absurd (unlike (codes "eval") (codes "page") refl refl asked.0)

-- what `check` gives by its flags
pub check_parts : (found : List Row) (r : Request) → AsksFor (Some (codes "check", found)) r
    → (s : Strictness) × GivesStrictness (is_given (codes "strict") found) (is_given (codes "no-warnings") found) s
check_parts found (OfText (Eval drawing dt view color files strictness words program restarts second)) asked = absurd (unlike (codes "check") (codes "eval") refl refl asked.0)
check_parts found (OfText (Check plant strictness)) asked = (strictness, asked.1.1)
check_parts found (OfText (Plan plant until form)) asked = absurd (unlike (codes "check") (codes "plan") refl refl asked.0)
check_parts found (Verify verify) asked = absurd (unlike (codes "check") (codes "verify") refl refl asked.0)
check_parts found (Sim sim) asked = absurd (unlike (codes "check") (codes "sim") refl refl asked.0)
check_parts found (Run run) asked = absurd (unlike (codes "check") (codes "run") refl refl asked.0)
check_parts found (Node node) asked = absurd (unlike (codes "check") (codes "node") refl refl asked.0)
check_parts found (Explain kind) asked = absurd (unlike (codes "check") (codes "explain") refl refl asked.0)
check_parts found (Audit audit) asked = absurd (unlike (codes "check") (codes "audit") refl refl asked.0)
check_parts found (Page file) asked = absurd (unlike (codes "check") (codes "page") refl refl asked.0)

-- what `verify` gives by its options
pub verify_parts : (found : List Row) (r : Request) → AsksFor (Some (codes "verify", found)) r
    → (n : Option ℕ) × (m : ℕ) × (k : Option ℕ) × (s : Strictness) × GivesOption (first_of (codes "dt") found) n × GivesNumber 1000000 (first_of (codes "most-states") found) m × GivesOption (first_of (codes "most-waiting") found) k
    × GivesStrictness (is_given (codes "strict") found) (is_given (codes "no-warnings") found) s × (r : Restarts) × GivesRestarts (is_given (codes "restarts") found) (is_given (codes "no-restarts") found) r × (w : Option (Bor (List ℕ))) × AsksSecond found w
    × (way : Way) × GivesWay (first_of (codes "by") found) way × (file : Option (Bor (List ℕ))) × AsksCertificate found file
verify_parts found (OfText (Eval drawing dt view color files strictness words program restarts second)) asked = absurd (unlike (codes "verify") (codes "eval") refl refl asked.0)
verify_parts found (OfText (Check plant strictness)) asked = absurd (unlike (codes "verify") (codes "check") refl refl asked.0)
verify_parts found (OfText (Plan plant until form)) asked = absurd (unlike (codes "verify") (codes "plan") refl refl asked.0)
verify_parts found (Verify verify) asked = (verify.dt, verify.most_states, verify.most_waiting, verify.strictness, asked.1.4, asked.1.5, asked.1.6, asked.1.8, verify.restarts, asked.1.3, verify.second, asked.1.10, verify.way, asked.1.11, verify.certificate, asked.1.12)
verify_parts found (Sim sim) asked = absurd (unlike (codes "verify") (codes "sim") refl refl asked.0)
verify_parts found (Run run) asked = absurd (unlike (codes "verify") (codes "run") refl refl asked.0)
verify_parts found (Node node) asked = absurd (unlike (codes "verify") (codes "node") refl refl asked.0)
verify_parts found (Explain kind) asked = absurd (unlike (codes "verify") (codes "explain") refl refl asked.0)
verify_parts found (Audit audit) asked = absurd (unlike (codes "verify") (codes "audit") refl refl asked.0)
verify_parts found (Page file) asked = absurd (unlike (codes "verify") (codes "page") refl refl asked.0)

-- what `plan` gives by its options
pub plan_parts : (found : List Row) (r : Request) → AsksFor (Some (codes "plan", found)) r
    → (n : ℕ) × GivesNumber 0 (first_of (codes "until") found) n
plan_parts found (OfText (Eval drawing dt view color files strictness words program restarts second)) asked = absurd (unlike (codes "plan") (codes "eval") refl refl asked.0)
plan_parts found (OfText (Check plant strictness)) asked = absurd (unlike (codes "plan") (codes "check") refl refl asked.0)
plan_parts found (OfText (Plan plant until form)) asked = (until, asked.1.1)
plan_parts found (Verify verify) asked = absurd (unlike (codes "plan") (codes "verify") refl refl asked.0)
plan_parts found (Sim sim) asked = absurd (unlike (codes "plan") (codes "sim") refl refl asked.0)
plan_parts found (Run run) asked = absurd (unlike (codes "plan") (codes "run") refl refl asked.0)
plan_parts found (Node node) asked = absurd (unlike (codes "plan") (codes "node") refl refl asked.0)
plan_parts found (Explain kind) asked = absurd (unlike (codes "plan") (codes "explain") refl refl asked.0)
plan_parts found (Audit audit) asked = absurd (unlike (codes "plan") (codes "audit") refl refl asked.0)
plan_parts found (Page file) asked = absurd (unlike (codes "plan") (codes "page") refl refl asked.0)

-- what `sim` gives by its options
pub sim_parts : (found : List Row) (r : Request) → AsksFor (Some (codes "sim", found)) r
    → (n : ℕ) × GivesNumber 4294967295 (first_of (codes "max-number") found) n
sim_parts found (OfText (Eval drawing dt view color files strictness words program restarts second)) asked = absurd (unlike (codes "sim") (codes "eval") refl refl asked.0)
sim_parts found (OfText (Check plant strictness)) asked = absurd (unlike (codes "sim") (codes "check") refl refl asked.0)
sim_parts found (OfText (Plan plant until form)) asked = absurd (unlike (codes "sim") (codes "plan") refl refl asked.0)
sim_parts found (Verify verify) asked = absurd (unlike (codes "sim") (codes "verify") refl refl asked.0)
sim_parts found (Sim sim) asked = (sim.max_number, asked.1.2)
sim_parts found (Run run) asked = absurd (unlike (codes "sim") (codes "run") refl refl asked.0)
sim_parts found (Node node) asked = absurd (unlike (codes "sim") (codes "node") refl refl asked.0)
sim_parts found (Explain kind) asked = absurd (unlike (codes "sim") (codes "explain") refl refl asked.0)
sim_parts found (Audit audit) asked = absurd (unlike (codes "sim") (codes "audit") refl refl asked.0)
sim_parts found (Page file) asked = absurd (unlike (codes "sim") (codes "page") refl refl asked.0)

-- what `run` gives by its options
pub run_parts : (found : List Row) (r : Request) → AsksFor (Some (codes "run", found)) r
    → (n : ℕ) × (p : Pace) × GivesNumber 0 (first_of (codes "until") found) n × GivesPace (is_given (codes "paced") found) (is_given (codes "clock") found) p
run_parts found (OfText (Eval drawing dt view color files strictness words program restarts second)) asked = absurd (unlike (codes "run") (codes "eval") refl refl asked.0)
run_parts found (OfText (Check plant strictness)) asked = absurd (unlike (codes "run") (codes "check") refl refl asked.0)
run_parts found (OfText (Plan plant until form)) asked = absurd (unlike (codes "run") (codes "plan") refl refl asked.0)
run_parts found (Verify verify) asked = absurd (unlike (codes "run") (codes "verify") refl refl asked.0)
run_parts found (Sim sim) asked = absurd (unlike (codes "run") (codes "sim") refl refl asked.0)
run_parts found (Run run) asked = (run.until, run.pace, asked.1.1, asked.1.3)
run_parts found (Node node) asked = absurd (unlike (codes "run") (codes "node") refl refl asked.0)
run_parts found (Explain kind) asked = absurd (unlike (codes "run") (codes "explain") refl refl asked.0)
run_parts found (Audit audit) asked = absurd (unlike (codes "run") (codes "audit") refl refl asked.0)
run_parts found (Page file) asked = absurd (unlike (codes "run") (codes "page") refl refl asked.0)

-- what `node` gives by its options
pub node_parts : (found : List Row) (r : Request) → AsksFor (Some (codes "node", found)) r
    → (end : Option ℕ) × (full : JournalFull) × (size : Option ℕ) × GivesEnd found end × GivesJournalFull found full
    × GivesJournalSize found size
node_parts found (OfText (Eval drawing dt view color files strictness words program restarts second)) asked = absurd (unlike (codes "node") (codes "eval") refl refl asked.0)
node_parts found (OfText (Check plant strictness)) asked = absurd (unlike (codes "node") (codes "check") refl refl asked.0)
node_parts found (OfText (Plan plant until form)) asked = absurd (unlike (codes "node") (codes "plan") refl refl asked.0)
node_parts found (Verify verify) asked = absurd (unlike (codes "node") (codes "verify") refl refl asked.0)
node_parts found (Sim sim) asked = absurd (unlike (codes "node") (codes "sim") refl refl asked.0)
node_parts found (Run run) asked = absurd (unlike (codes "node") (codes "run") refl refl asked.0)
node_parts found (Node node) asked = (node.until, node.journal_full, node.journal_size, asked.1.4, asked.1.7, asked.1.8)
node_parts found (Explain kind) asked = absurd (unlike (codes "node") (codes "explain") refl refl asked.0)
node_parts found (Audit audit) asked = absurd (unlike (codes "node") (codes "audit") refl refl asked.0)
node_parts found (Page file) asked = absurd (unlike (codes "node") (codes "page") refl refl asked.0)

-- a name of none of the ten asks for nothing
pub no_command : (name : List ℕ) (found : List Row) (r : Request)
    → (name ≡ codes "eval" → ⊥)
    → (name ≡ codes "check" → ⊥)
    → (name ≡ codes "plan" → ⊥)
    → (name ≡ codes "verify" → ⊥)
    → (name ≡ codes "sim" → ⊥)
    → (name ≡ codes "run" → ⊥)
    → (name ≡ codes "node" → ⊥)
    → (name ≡ codes "explain" → ⊥)
    → (name ≡ codes "audit" → ⊥)
    → (name ≡ codes "page" → ⊥) → AsksFor (Some (name, found)) r → ⊥
no_command name found (OfText (Eval drawing dt view color files strictness words program restarts second)) no_eval no_check no_plan no_verify no_sim no_run no_node no_explain no_audit no_page asked = no_eval asked.0
no_command name found (OfText (Check plant strictness)) no_eval no_check no_plan no_verify no_sim no_run no_node no_explain no_audit no_page asked = no_check asked.0
no_command name found (OfText (Plan plant until form)) no_eval no_check no_plan no_verify no_sim no_run no_node no_explain no_audit no_page asked = no_plan asked.0
no_command name found (Verify verify) no_eval no_check no_plan no_verify no_sim no_run no_node no_explain no_audit no_page asked = no_verify asked.0
no_command name found (Sim sim) no_eval no_check no_plan no_verify no_sim no_run no_node no_explain no_audit no_page asked = no_sim asked.0
no_command name found (Run run) no_eval no_check no_plan no_verify no_sim no_run no_node no_explain no_audit no_page asked = no_run asked.0
no_command name found (Node node) no_eval no_check no_plan no_verify no_sim no_run no_node no_explain no_audit no_page asked = no_node asked.0
no_command name found (Explain kind) no_eval no_check no_plan no_verify no_sim no_run no_node no_explain no_audit no_page asked = no_explain asked.0
no_command name found (Audit audit) no_eval no_check no_plan no_verify no_sim no_run no_node no_explain no_audit no_page asked = no_audit asked.0
no_command name found (Page file) no_eval no_check no_plan no_verify no_sim no_run no_node no_explain no_audit no_page asked = no_page asked.0

-- the words name no subcommand
pub none_named : (command : Command) (words : List (List ℕ)) (m : ArgMatches) (r : Option (Bor (List ℕ) × Bor ArgMatches)) → r ≡ None
    → option_map (λ p. rows_of (found_of p.1.now)) r ≡ option_map (λ p. p.1) (subcommand_rows_of m)
    → HasMatchesOf (app_of command) words m → app_of command ≡ plc_app → subcommand_of plc_app words ≡ None
none_named command words m r is found has app_is =
    sym (ap (λ (a : App). subcommand_of a words) app_is) ∙ sym (has (ap is_simple app_is)).1 ∙ nothing (subcommand_rows_of m) (sym (ap (option_map (λ p. rows_of (found_of p.1.now))) is) ∙ found)
  where
    nothing : (o : Option (List ℕ × List Row)) → None ≡ option_map (λ p. p.1) o → o ≡ None
    nothing None e = refl
    nothing (Some x) e = cc
