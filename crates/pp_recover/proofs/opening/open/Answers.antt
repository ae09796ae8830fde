use Rattle.std.proofs.Common.{refl}
use Rattle.std.specs.Prelude.{Ok, Err}
use Rattle.pp_recover.proofs.BackedLemmas.{opens_backed}
use Rattle.pp_recover.proofs.CountLemmas.{counts_listed, counts_then}
use Rattle.pp_recover.proofs.CoverLemmas.{covers_ok}
use Rattle.pp_recover.proofs.OpenLemmas.{fresh_mid, went, opens_ok, opens_front, holds_ok, went_moments, none_moments, list_moments, same_entries}
use Rattle.pp_recover.proofs.opening.open.Goals as goal

pub returns-in_err-store-clause-moments : goal.returns-in_err-store-clause-moments
returns-in_err-store-clause-moments g c =
    same_entries _ _
    (none_moments _)

pub returns-in_err-store-clause-backed : goal.returns-in_err-store-clause-backed
returns-in_err-store-clause-backed g c =
    opens_backed _ _
    (none_moments _)

pub returns-in_err-names-clause-moments : goal.returns-in_err-names-clause-moments
returns-in_err-names-clause-moments g c =
    same_entries _ _
    (list_moments {A = Unit {0}} _ _ (Err c.in_err-names.field-0.0) refl c.in_err-names.ensures.told)

pub returns-in_err-names-clause-backed : goal.returns-in_err-names-clause-backed
returns-in_err-names-clause-backed g c =
    opens_backed _ _
    (list_moments {A = Unit {0}} _ _ (Err c.in_err-names.field-0.0) refl c.in_err-names.ensures.told)

pub tend_all-requires-clause-fresh : goal.tend_all-requires-clause-fresh
tend_all-requires-clause-fresh g c = fresh_mid _ _ c.in_ok-names.ensures.told c.requires.fresh

pub returns-in_err-tend_all-clause-opens : goal.returns-in_err-tend_all-clause-opens
returns-in_err-tend_all-clause-opens g c =
    opens_front _ _ c.in_ok-names.names.items c.tend_all.new.store _ c.from_residual-in_err-tend_all.result c.from_residual-in_err-tend_all.ensures.1
    (went _ _ _ c.in_ok-names.names.items _ c.tend_all.new.store c.in_ok-names.ensures.told c.in_ok-names.ensures.names (rw c.deref.ensures.value at c.in_err-tend_all.ensures.tends))

pub returns-in_err-tend_all-clause-moments : goal.returns-in_err-tend_all-clause-moments
returns-in_err-tend_all-clause-moments g c =
    same_entries _ _
    (went_moments _ _ c.in_ok-names.names.items _ c.tend_all.new.store c.in_ok-names.ensures.form.order
    (went _ _ _ c.in_ok-names.names.items _ c.tend_all.new.store c.in_ok-names.ensures.told c.in_ok-names.ensures.names (rw c.deref.ensures.value at c.in_err-tend_all.ensures.tends)))

pub returns-in_err-tend_all-clause-backed : goal.returns-in_err-tend_all-clause-backed
returns-in_err-tend_all-clause-backed g c =
    opens_backed _ _
    (went_moments _ _ c.in_ok-names.names.items _ c.tend_all.new.store c.in_ok-names.ensures.form.order
    (went _ _ _ c.in_ok-names.names.items _ c.tend_all.new.store c.in_ok-names.ensures.told c.in_ok-names.ensures.names (rw c.deref.ensures.value at c.in_err-tend_all.ensures.tends)))

pub returns-clause-opens : goal.returns-clause-opens
returns-clause-opens g c =
    opens_ok _ _ c.in_ok-names.names.items c.tend_all.new.store c.in_ok-names.ensures.form.order
    (went _ _ _ c.in_ok-names.names.items _ c.tend_all.new.store c.in_ok-names.ensures.told c.in_ok-names.ensures.names (rw c.deref.ensures.value at c.in_ok-tend_all.ensures.tends))

pub returns-clause-moments : goal.returns-clause-moments
returns-clause-moments g c =
    same_entries _ _
    (went_moments _ _ c.in_ok-names.names.items _ c.tend_all.new.store c.in_ok-names.ensures.form.order
    (went _ _ _ c.in_ok-names.names.items _ c.tend_all.new.store c.in_ok-names.ensures.told c.in_ok-names.ensures.names (rw c.deref.ensures.value at c.in_ok-tend_all.ensures.tends)))

pub returns-clause-backed : goal.returns-clause-backed
returns-clause-backed g c =
    opens_backed _ _
    (went_moments _ _ c.in_ok-names.names.items _ c.tend_all.new.store c.in_ok-names.ensures.form.order
    (went _ _ _ c.in_ok-names.names.items _ c.tend_all.new.store c.in_ok-names.ensures.told c.in_ok-names.ensures.names (rw c.deref.ensures.value at c.in_ok-tend_all.ensures.tends)))

pub returns-clause-holds : goal.returns-clause-holds
returns-clause-holds g c =
    holds_ok _ _ c.in_ok-names.names.items c.tend_all.new.store c.in_ok-names.ensures.form.order
    (went _ _ _ c.in_ok-names.names.items _ c.tend_all.new.store c.in_ok-names.ensures.told c.in_ok-names.ensures.names (rw c.deref.ensures.value at c.in_ok-tend_all.ensures.tends))

pub returns-clause-covers : goal.returns-clause-covers
returns-clause-covers g c = covers_ok _ _ c.tend_all.new.store (returns-clause-opens g c) (returns-clause-moments g c)

pub returns-in_err-names-clause-counted : goal.returns-in_err-names-clause-counted
returns-in_err-names-clause-counted g c =
    counts_listed {A = Unit {0}} _ _ _ _ (Err c.in_err-names.field-0.0) c.in_err-names.ensures.told c.in_err-names.ensures.cause c.in_err-names.ensures.faults

pub returns-in_err-tend_all-clause-counted : goal.returns-in_err-tend_all-clause-counted
returns-in_err-tend_all-clause-counted g c =
    counts_then _ _ _ _ _ _ (counts_listed _ _ _ _ (Ok c.in_ok-names.names) c.in_ok-names.ensures.told c.in_ok-names.ensures.cause c.in_ok-names.ensures.faults) c.in_err-tend_all.ensures.counted

pub returns-clause-counted : goal.returns-clause-counted
returns-clause-counted g c =
    counts_then _ _ _ _ _ _ (counts_listed _ _ _ _ (Ok c.in_ok-names.names) c.in_ok-names.ensures.told c.in_ok-names.ensures.cause c.in_ok-names.ensures.faults) c.in_ok-tend_all.ensures.counted
