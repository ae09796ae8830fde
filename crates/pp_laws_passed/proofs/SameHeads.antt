-- What a head tells of rows, and the bytes that join them, leave clients, exchanges and connections as they are.
use Rattle.std.proofs.Common.{ℕ, true, ◌&&◌, List, [], ◌∷◌}
use Rattle.pp_fresh.specs.declared.aging.Times.{Times}
use Rattle.pp_head.specs.Response.{Response}
use Rattle.pp_target.specs.Key.{Key, text_of}
use Rattle.pp_text.specs.Bytes.{is_empty}
use Rattle.pp_law.specs.Lists.{Bytes, is_some_with}
use Rattle.pp_law.specs.OwnHeads.{key_of, times_for, renewed, renew, renew_row, known_version, clears_row, cleared_by, note_own, note_sent, join}
use Rattle.pp_law.specs.Responses.{bring_row, is_readable}
use Rattle.pp_law.specs.State.{State, Answer, Exchange, Instance, Bound}
use Rattle.pp_law.specs.Table.{row, instance}
use Rattle.pp_law.specs.ThroughHeads.{invalidates, key_named, is_same_host, clear_named, clear_each, places_named, invalidated, disproves, reads, disproved}
use Rattle.pp_laws_passed.proofs.Same.{Same, alike, facts_of}
use Rattle.pp_laws_passed.proofs.SameCases.{by_aim_of, each_of, when}
use Rattle.pp_laws_passed.proofs.SameRows.{clear-same, enter-same, mark_row-same, note_use-same, on_instance-same}

pub renew-same : {o : State} (x : Instance) (head : Response) (times : Times) (s : State) → Same o s → Same o (renew x head times s)
unfolding renew
renew-same x head times s h = mark_row-same x.id _ (on_instance-same x.id (renewed head times) s h)

pub renew_row-same : {o : State} (e : Exchange) (head : Response) (s : State) → Same o s → Same o (renew_row e head s)
unfolding renew_row
renew_row-same e head s h = each_of (row s (key_of e)) h (λ x. renew-same x head (times_for e head s) s h)

pub bring_row-same : {o : State} (e : Exchange) (head : Response) (s : State) → Same o s → Same o (bring_row e head s)
unfolding bring_row
bring_row-same e head s h = when (is_readable e head) (enter-same (key_of e) true s h) h

pub cleared_by-same : {o : State} (head : Response) (e : Exchange) (s : State) → Same o s → Same o (cleared_by head e s)
unfolding cleared_by
cleared_by-same head e s h = when (clears_row head) (clear-same (key_of e) s h) h

pub clear_named-same : {o : State} (key : Key) (text : Bytes) (s : State) → Same o s → Same o (clear_named key text s)
unfolding clear_named
clear_named-same key text s h = each_of (key_named key text) h (λ named. when (is_same_host named key) (clear-same (text_of named) s h) h)

pub clear_each-same : {o : State} (key : Key) (texts : List Bytes) (s : State) → Same o s → Same o (clear_each key texts s)
unfolding clear_each
clear_each-same key [] s h = h
clear_each-same key (text ∷ texts) s h = clear_each-same key texts _ (clear_named-same key text s h)

pub invalidated-same : {o : State} (e : Exchange) (head : Response) (s : State) → Same o s → Same o (invalidated e head s)
unfolding invalidated
invalidated-same e head s h = when (invalidates e head) (clear_each-same e.key (places_named head) _ (clear-same (key_of e) s h)) h

pub disproved-same : {o : State} (e : Exchange) (head : Response) (s : State) → Same o s → Same o (disproved e head s)
unfolding disproved
disproved-same e head s h = when (reads e && is_some_with (disproves head) (known_version s (key_of e))) (clear-same (key_of e) s h) h

pub note_own-same : {o : State} (e : Exchange) (a : Answer) (at : ℕ) (bytes : Bytes) (s : State) → Same o s → Same o (note_own e a at bytes s)
unfolding note_own
note_own-same e a at bytes s h = when (is_empty bytes) h (alike (facts_of h))

pub note_sent-same : {o : State} (e : Exchange) (a : Answer) (at : ℕ) (bytes : Bytes) (s : State) → Same o s → Same o (note_sent e a at bytes s)
unfolding note_sent
note_sent-same e a at bytes s h = by_aim_of e.aim h (note_own-same e a at bytes s h) (λ v from to. note_own-same e a at bytes s h)

pub join-same : {o : State} (b : Bound) (bytes : Bytes) (s : State) → Same o s → Same o (join b bytes s)
unfolding join
join-same b bytes s h = each_of _ h (λ x. note_use-same _ (alike (facts_of h)))
