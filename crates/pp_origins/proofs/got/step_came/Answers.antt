use Rattle.std.proofs.Common.{◌≡◌, ◌∙◌, ◌≤◌, ◌+◌, ◌-◌, ◌++◌, [], ap, refl, subst, length, slice_range, vec_capacity, ℕ, List, Option, Some, arith}
use Rattle.std.specs.List.{find}
use Rattle.pp_desk.specs.declared.desk.Desk.{Desk}
use Rattle.pp_origins.proofs.GotLemmas.{body_fits, step_goes_on}
use Rattle.pp_origins.specs.Gots.{IsFedOn, both, going_on}
use Rattle.pp_peers.specs.Peers.{is_number}
use Rattle.pp_peers.specs.declared.peers.Peer.{Peer}
use Rattle.pp_pipe.specs.declared.step.Step.{Step}
use Rattle.pp_pipe.specs.declared.step.Step.TheVariants.{Head, Body, End}
use Rattle.pp_origins.proofs.got.step_came.Goals as goal

pub returns-in-Head-clause-is : goal.returns-in-Head-clause-is
returns-in-Head-clause-is c = λ seated bounded fits.
    let old : Desk = c.args.desk.now in
    let fed : List Peer = c.feed.new.peers in
    let new : Desk = c.head_came.new.desk in
    let k = c.args.k in
    let at = c.args.at in
    let n = c.args.n in
    let used : ℕ = c.in_ok-used.used in
    let p : Option Peer = going_on (find (is_number k) old.peers) in
    let told : Option (ℕ × Step) = c.feed.result in
    let is : told ≡ Some (used, Head) = c.in_ok-used.was ∙ ap (λ (s : Step). Some (used, s)) c.in-Head.is in
    let feeds : IsFedOn p k (slice_range old.buffer.items at n) told old.peers fed = subst (λ (xs : List ℕ). IsFedOn p k (slice_range xs at n) told old.peers fed) c.deref.ensures.value c.feed.ensures in
    step_goes_on p c.args.shelf.now k old.buffer.items at n used Head told fed (both old) (both new) old.«data».items old.«data».items new.«data».items c.requires.within is feeds (c.head_came.ensures.is seated) bounded refl
    (ap (λ (d : Desk). d.«data».items) c.head_came.ensures.rest)

pub returns-in-Body-clause-is : goal.returns-in-Body-clause-is
returns-in-Body-clause-is c = λ seated bounded fits.
    let old : Desk = c.args.desk.now in
    let fed : List Peer = c.feed.new.peers in
    let k = c.args.k in
    let at = c.args.at in
    let n = c.args.n in
    let from : ℕ = c.in-Body.from in
    let to : ℕ = c.in-Body.to in
    let used : ℕ = c.in_ok-used.used in
    let came : List ℕ = old.«data».items in
    let now : List ℕ = c.join_data.new.joined.items in
    let p : Option Peer = going_on (find (is_number k) old.peers) in
    let told : Option (ℕ × Step) = c.feed.result in
    let is : told ≡ Some (used, Body from to) = c.in_ok-used.was ∙ ap (λ (s : Step). Some (used, s)) c.in-Body.is in
    let feeds : IsFedOn p k (slice_range old.buffer.items at n) told old.peers fed = subst (λ (xs : List ℕ). IsFedOn p k (slice_range xs at n) told old.peers fed) c.deref.ensures.value c.feed.ensures in
    let few : to - from ≤ n - at = body_fits p k old.buffer.items at n used from to old.peers fed (subst (λ (a : Option (ℕ × Step)). IsFedOn p k (slice_range old.buffer.items at n) a old.peers fed) is feeds) in
    let room : length came + (to - from) ≤ vec_capacity old.«data» = omega (arith, fits, few) in
    step_goes_on p c.args.shelf.now k old.buffer.items at n used (Body from to) told fed (both old) (record (both old) { peers = fed }) came (came ++ slice_range (slice_range old.buffer.items at n) from to) now c.requires.within is feeds refl bounded refl
    (c.join_data.ensures.is room ∙ ap (λ (xs : List ℕ). came ++ slice_range (slice_range xs at n) from to) c.deref.ensures.value)

pub returns-in-End-clause-is : goal.returns-in-End-clause-is
returns-in-End-clause-is c = λ seated bounded fits.
    let old : Desk = c.args.desk.now in
    let fed : List Peer = c.feed.new.peers in
    let new : Desk = c.response_came.new.desk in
    let k = c.args.k in
    let at = c.args.at in
    let n = c.args.n in
    let used : ℕ = c.in_ok-used.used in
    let p : Option Peer = going_on (find (is_number k) old.peers) in
    let told : Option (ℕ × Step) = c.feed.result in
    let is : told ≡ Some (used, End) = c.in_ok-used.was ∙ ap (λ (s : Step). Some (used, s)) c.in-End.is in
    let feeds : IsFedOn p k (slice_range old.buffer.items at n) told old.peers fed = subst (λ (xs : List ℕ). IsFedOn p k (slice_range xs at n) told old.peers fed) c.deref.ensures.value c.feed.ensures in
    step_goes_on p c.args.shelf.now k old.buffer.items at n used End told fed (both old) (both new) old.«data».items [] new.«data».items c.requires.within is feeds (c.response_came.ensures.is seated) bounded refl c.response_came.ensures.none
