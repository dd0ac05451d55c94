-- The journals and the book agree in the end, since each resource has stood from its beginning on.
use Rattle.std.proofs.Common.{◌≡◌, ◌≤◌, ◌∙◌, All, List, length, sym, ap, subst}
use Rattle.plant.specs.PlantValue.{PlantValue}
use Rattle.book.specs.Book.{BookValue}
use Rattle.node_reports.specs.declared.journal.Journal.{Journal}
use Rattle.node_reports.specs.Journals.{firsts_of, IsLawful}
use Rattle.node_reports.specs.Reports.{RunsAgain, IsAgreeFault}
use Rattle.audit.specs.Delivered.{AreDelivered, AreHeardTruly}
use Rattle.audit.specs.Reasons.{skipped_in}
use Rattle.audit.specs.Steps.Standings.{AuditedBook, empty_book, AreFrom}
use Rattle.audit.specs.Readings.{AreReadings}
use Rattle.audit.specs.declared.line.Place.{Place}
use Rattle.audit.specs.Told.{all_without}
use Rattle.audit.specs.Steps.Settled.{HaveTold}
use Rattle.audit.specs.declared.follower.Follower.{Follower}
use Rattle.audit.proofs.GoingOn.{all_heard, audited_agree, disagrees_not, few_skipped, lines_of, many_skips}
use Rattle.audit.proofs.Tellings.{told_by}
use Rattle.audit.proofs.auditing.audit.Goals as goal

pub go_on-requires : goal.go_on-requires
go_on-requires c =
    let begins : c.in_ok-book.book ≡ empty_book c.args.plant.value = c.in_ok-book.ensures ∙ ap (λ (p : PlantValue). empty_book p) c.in_ok-try_clone.ensures in
    subst (λ (b : AuditedBook). AreFrom b 0 c.in_ok-followers.followers.items) (sym begins) c.in_ok-followers.ensures.stand

pub agreed-requires-clause-lawful : goal.agreed-requires-clause-lawful
agreed-requires-clause-lawful c =
    let journals = c.in_ok-journals.journals.items in
    let begins : c.in_ok-book.book ≡ empty_book c.args.plant.value = c.in_ok-book.ensures ∙ ap (λ (p : PlantValue). empty_book p) c.in_ok-try_clone.ensures in
    let all = audited_agree c.args.plant.value c.in_ok-book.book c.go_on.new.book c.in_ok-followers.followers.items c.in_ok-followers-2.followers.items journals begins
    c.in_ok-followers-2.ensures.plant c.in_ok-followers.ensures.many c.in_ok-followers-2.ensures.many c.in_ok-journals.ensures.many c.in_ok-followers-2.ensures.stand c.in_ok-journals.ensures.journals in
    subst (λ (p : PlantValue). All (IsLawful p (firsts_of journals) 4294967295) journals) (sym c.deref-2.ensures) all.lawful

pub returns-clause-again : goal.returns-clause-again
returns-clause-again c =
    subst (λ (p : PlantValue). RunsAgain p 4294967295 c.in-Ok.field-0.book c.in-Ok.field-0.journals) c.deref-2.ensures c.in-Ok.ensures.again

pub returns-clause-delivered : goal.returns-clause-delivered
returns-clause-delivered c =
    let journals = c.in_ok-journals.journals.items in
    let kept = c.in-Ok.ensures.kept in
    let begins : c.in_ok-book.book ≡ empty_book c.args.plant.value = c.in_ok-book.ensures ∙ ap (λ (p : PlantValue). empty_book p) c.in_ok-try_clone.ensures in
    let all = audited_agree c.args.plant.value c.in_ok-book.book c.go_on.new.book c.in_ok-followers.followers.items c.in_ok-followers-2.followers.items journals begins
    c.in_ok-followers-2.ensures.plant c.in_ok-followers.ensures.many c.in_ok-followers-2.ensures.many c.in_ok-journals.ensures.many c.in_ok-followers-2.ensures.stand c.in_ok-journals.ensures.journals in
    subst (λ (k : BookValue). AreDelivered k.entries c.in-Ok.field-0.journals) (sym (kept.0 ∙ c.into_book.ensures.same))
    (subst (λ (js : List Journal). AreDelivered c.go_on.new.book.book.entries js) (sym kept.1) all.delivered)

pub unreachable-requires : goal.unreachable-requires
unreachable-requires c =
    let journals = c.in_ok-journals.journals.items in
    let fault = c.in-Err.field-0 in
    let begins : c.in_ok-book.book ≡ empty_book c.args.plant.value = c.in_ok-book.ensures ∙ ap (λ (p : PlantValue). empty_book p) c.in_ok-try_clone.ensures in
    let all = audited_agree c.args.plant.value c.in_ok-book.book c.go_on.new.book c.in_ok-followers.followers.items c.in_ok-followers-2.followers.items journals begins
    c.in_ok-followers-2.ensures.plant c.in_ok-followers.ensures.many c.in_ok-followers-2.ensures.many c.in_ok-journals.ensures.many c.in_ok-followers-2.ensures.stand c.in_ok-journals.ensures.journals in
    let given = subst (λ (p : PlantValue). IsAgreeFault p c.go_on.new.book.book journals fault) c.deref-2.ensures
    (subst (λ (k : BookValue). IsAgreeFault c.deref-2.result.now k journals fault) c.into_book.ensures.same c.in-Err.ensures.fault) in
    disagrees_not c.args.plant.value c.go_on.new.book.book journals fault given all.agree

pub returns-clause-told : goal.returns-clause-told
returns-clause-told c =
    let p = c.args.plant.value in
    let files = c.args.files.now in
    let fs = c.in_ok-followers-2.followers.items in
    let begins : c.in_ok-book.book ≡ empty_book p = c.in_ok-book.ensures ∙ ap (λ (p : PlantValue). empty_book p) c.in_ok-try_clone.ensures in
    let readings = c.in_ok-resources.field-0 in
    told_by p files (record { book = c.in-Ok.field-0.book; journals = c.in-Ok.field-0.journals; unshown = c.in_ok-unshown.unshown; without = c.in_ok-without.without }) readings c.go_on.new.book fs
    (subst (λ q. AreReadings q files readings) c.deref.ensures c.in_ok-resources.ensures.read)
    (c.in_ok-followers-2.ensures.plant.plant_is ∙ ap (λ (x : AuditedBook). x.plant) begins)
    (sym (c.in-Ok.ensures.kept.0 ∙ c.into_book.ensures.same))
    c.in_ok-followers-2.ensures.stand (c.in_ok-followers-2.ensures.many ∙ c.in_ok-followers.ensures.many)
    (c.in_ok-followers-2.ensures.lines ∙ c.in_ok-followers.ensures.lines)
    (c.in-Ok.ensures.kept.1 ∙ c.in_ok-journals.ensures.same)
    (subst (λ (xs : List Follower). HaveTold c.go_on.new.book xs readings.without_start.items c.in_ok-unshown.unshown.items) c.as_slice.ensures.value
    (subst (λ (places : List Place). HaveTold c.go_on.new.book c.as_slice.result.now places c.in_ok-unshown.unshown.items) c.as_slice-2.ensures.value c.in_ok-unshown.ensures))
    (c.in_ok-without.ensures ∙ ap (λ (xs : List Follower). all_without (lines_of xs) (length xs)) c.as_slice-3.ensures.value)

pub all_unshown-requires-clause-stand : goal.all_unshown-requires-clause-stand
all_unshown-requires-clause-stand c =
    subst (λ (fs : List Follower). AreFrom c.go_on.new.book 0 fs) (sym c.as_slice.ensures.value) c.in_ok-followers-2.ensures.stand

pub all_unshown-requires-clause-many : goal.all_unshown-requires-clause-many
all_unshown-requires-clause-many c =
    let begins : c.in_ok-book.book ≡ empty_book c.args.plant.value = c.in_ok-book.ensures ∙ ap (λ (p : PlantValue). empty_book p) c.in_ok-try_clone.ensures in
    many_skips c.args.plant.value c.in_ok-book.book c.go_on.new.book (length c.in_ok-followers-2.followers.items) begins c.in_ok-followers-2.ensures.plant (c.in_ok-followers-2.ensures.many ∙ c.in_ok-followers.ensures.many)
    ∙ ap (λ (fs : List Follower). length fs) (sym c.as_slice.ensures.value)

pub returns-clause-heard : goal.returns-clause-heard
returns-clause-heard c =
    subst (λ (js : List Journal). AreHeardTruly js) (sym c.in-Ok.ensures.kept.1)
    (all_heard c.go_on.new.book c.in_ok-journals.journals.items (c.in_ok-journals.ensures.journals c.go_on.new.book c.in_ok-followers-2.ensures.stand))

pub returns-clause-few : goal.returns-clause-few
returns-clause-few c =
    let journals = c.in_ok-journals.journals.items in
    let begins : c.in_ok-book.book ≡ empty_book c.args.plant.value = c.in_ok-book.ensures ∙ ap (λ (p : PlantValue). empty_book p) c.in_ok-try_clone.ensures in
    let many : length c.go_on.new.book.skips ≡ length journals =
    many_skips c.args.plant.value c.in_ok-book.book c.go_on.new.book (length journals) begins c.in_ok-followers-2.ensures.plant (c.in_ok-journals.ensures.many ∙ c.in_ok-followers-2.ensures.many ∙ c.in_ok-followers.ensures.many) in
    subst (λ (js : List Journal). skipped_in js ≤ 1000000) (sym c.in-Ok.ensures.kept.1)
    (few_skipped c.go_on.new.book journals (c.in_ok-journals.ensures.journals c.go_on.new.book c.in_ok-followers-2.ensures.stand) (sym many) c.into_book.ensures.few)
