use Rattle.std.proofs.Common.{◌∙◌, ap, sym, subst, filter, List, ℕ}
use Rattle.pp_peers.specs.declared.peers.Peer.{Peer}
use Rattle.pp_wants.specs.Awaited.{all_asked, all_got}
use Rattle.pp_desk.specs.declared.desk.Desk.{Desk}
use Rattle.pp_state.specs.Ends.{AreSeated, parts}
use Rattle.pp_due.specs.Waits.{all_written, is_loud}
use Rattle.pp_state.specs.declared.state.State.{State}
use Rattle.pp_wants.proofs.wants.note_wants.Goals as goal

pub returns-clause-read : goal.returns-clause-read
returns-clause-read c = λ seated rises.
    let old : Desk = c.args.desk.now in
    let s : State = c.note_clients.new.state in
    let rest = c.note_clients.ensures.rest in
    let loud : List ℕ = filter (is_loud old.state.seats.items) old.state.awake.items in
    let read : List ℕ = c.note_clients.new.wants.read.items in
    let peers : List Peer = c.as_slice.result.now in
    let seated_then : AreSeated s = subst (λ (t : State). AreSeated t) (sym rest) seated in
    c.note_origins.ensures.read seated_then
    ∙ ap (λ (ns : List ℕ). all_got ns (parts s) peers read) c.note_clients.ensures.awake
    ∙ ap (λ (t : State). all_got loud (parts t) peers read) rest
    ∙ ap (λ (ps : List Peer). all_got loud (parts old.state) ps read) c.as_slice.ensures
    ∙ ap (λ (ns : List ℕ). all_got loud (parts old.state) old.peers ns) (c.note_clients.ensures.read rises)

pub returns-clause-write : goal.returns-clause-write
returns-clause-write c = λ seated.
    let old : Desk = c.args.desk.now in
    let s : State = c.note_clients.new.state in
    let rest = c.note_clients.ensures.rest in
    let written : List ℕ = c.note_clients.new.wants.write.items in
    let peers : List Peer = c.as_slice.result.now in
    let seated_then : AreSeated s = subst (λ (t : State). AreSeated t) (sym rest) seated in
    c.note_origins.ensures.write seated_then
    ∙ ap (λ (t : State). all_asked (parts t) peers written) rest
    ∙ ap (λ (ps : List Peer). all_asked (parts old.state) ps written) c.as_slice.ensures
    ∙ ap (λ (ns : List ℕ). all_asked (parts old.state) old.peers ns) c.note_clients.ensures.write
    ∙ ap (λ (ns : List ℕ). all_asked (parts old.state) old.peers (all_written old.state ns)) c.clear.ensures
