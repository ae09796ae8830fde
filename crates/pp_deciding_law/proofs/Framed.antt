-- The phase, and for whom a row left memory, are no part of what is shown; and a kept row comes in beside them.
use Rattle.std.proofs.Common.{◌≡◌, refl, sym, subst, ap, ◌∙◌, ℕ, Bool, true, false, cond, bytes_eq, List, [], ◌∷◌, Option, Some, None}
use Rattle.std.proofs.lemmas.Slice.Eq.{bytes_eq-Decides}
use Rattle.pp_cache_law.proofs.Finds.{find_joined, first_of_two}
use Rattle.pp_cache_law.proofs.Framing.{frames_of, the_same}
use Rattle.pp_flow_law.proofs.Framed.{frames as flow_frames}
use Rattle.pp_flow_law.specs.Tables.{Leaving}
use Rattle.pp_law.specs.Connections.{exchange}
use Rattle.pp_law.specs.Lists.{Bytes}
use Rattle.pp_law.specs.State.{State, Entry, Instance as Known, Phase}
use Rattle.pp_law.specs.Table.{add_row, forget, is_row_of, must_forget, row, row_on_disk}
use Rattle.pp_peers.specs.declared.peers.Peer.{Peer}
use Rattle.pp_states_law.proofs.Asked.{all_as, frames, itself}
use Rattle.pp_states_law.specs.States.{Parts as Whole, ShowsState}
use Rattle.pp_state.specs.Ends.{Parts}
use Rattle.pp_states_law.specs.Steps.{ShowsSteps, whole}
use Rattle.pp_turns_law.specs.Firsts.{with_row_if}
use Rattle.pp_turns_law.specs.Rows.{kept_alone, with_entry, with_row_of}

-- as it is in that phase, whoever a row left for
abbrev pub in_turn : Phase → Option ℕ → State → State
in_turn phase room s = record s { phase = phase; made_room_for = room }

module _ (phase : Phase) (room : Option ℕ) where
  shown_in : (number : ℕ → ℕ) (name : Bytes) (l : Leaving) (p : Whole) (s : State) → ShowsState number name [] l p s → ShowsState number name [] l p (in_turn phase room s)
  shown_in number name l p s shows =
      let t : State = in_turn phase room s in
      record {
        clients = shows.clients;
        exchanges = flow_frames number l p.flow s shows.exchanges l t (record { exchanges = refl; next = refl; lines = λ k. refl });
        table =
            frames_of number p.memory s shows.table p.memory t (record { instances = refl; lives = refl; chunks = refl; extents = refl })
            (record { instances = refl; made = the_same s.next_instance; chunks = refl; followers = λ k. refl; kept = λ x. refl });
        conns = frames s t p.peers s.conns (all_as s t (λ k. itself (exchange s k)) s.conns) shows.conns;
      }

  pub steps_in : (number : ℕ → ℕ) (name : Bytes) (l : Leaving) (peers : List Peer) (p : Parts) (s : State) → ShowsSteps number name l peers p s → ShowsSteps number name l peers p (in_turn phase room s)
  steps_in number name l peers p s steps = record { shows = shown_in number name l (whole p peers) s steps.shows; order = steps.order; told = steps.told; refused = steps.refused }

  entry_in : (text : Bytes) (o : Option Entry) (s : State) → with_entry text o (in_turn phase room s) ≡ in_turn phase room (with_entry text o s)
  unfolding add_row
  entry_in text None s = refl
  entry_in text (Some e) s = refl

  pub row_in : (text : Option Bytes) (s : State) → with_row_if text (in_turn phase room s) ≡ in_turn phase room (with_row_if text s)
  row_in None s = refl
  row_in (Some text) s = entry_in text (kept_alone s text) s

  -- what shows it with its row shows it there with its row
  pub rows_in : (number : ℕ → ℕ) (name : Bytes) (l : Leaving) (peers : List Peer) (p : Parts) (text : Option Bytes) (s : State) → ShowsSteps number name l peers p (with_row_if text s) → ShowsSteps number name l peers p (with_row_if text (in_turn phase room s))
  rows_in number name l peers p text s steps = subst (λ (t : State). ShowsSteps number name l peers p t) (sym (row_in text s)) (steps_in number name l peers p (with_row_if text s) steps)

-- ---- clients, exchanges and connections stay

pub record IsBeside (s t : State) : Type 0 where
  pub clients : t.clients ≡ s.clients
  pub exchanges : t.exchanges ≡ s.exchanges
  pub conns : t.conns ≡ s.conns
  pub settings : t.settings ≡ s.settings

entry_beside : (text : Bytes) (o : Option Entry) (s : State) → IsBeside s (with_entry text o s)
unfolding add_row
entry_beside text None s = record { clients = refl; exchanges = refl; conns = refl; settings = refl }
entry_beside text (Some e) s = record { clients = refl; exchanges = refl; conns = refl; settings = refl }

pub row_beside : (text : Option Bytes) (s : State) → IsBeside s (with_row_if text s)
row_beside None s = record { clients = refl; exchanges = refl; conns = refl; settings = refl }
row_beside (Some text) s = entry_beside text (kept_alone s text) s

pub forget_beside : (id : ℕ) (s : State) → IsBeside s (forget id s)
unfolding forget
forget_beside id s = record { clients = refl; exchanges = refl; conns = refl; settings = refl }

pub beside_then : (s t u : State) → IsBeside s t → IsBeside t u → IsBeside s u
beside_then s t u one two = record { clients = two.clients ∙ one.clients; exchanges = two.exchanges ∙ one.exchanges; conns = two.conns ∙ one.conns; settings = two.settings ∙ one.settings }

-- whether a row has to leave is the same
pub must_in : (phase : Phase) (room : Option ℕ) (s : State) (text : Bytes) → must_forget (in_turn phase room s) text ≡ must_forget s text
must_in phase room s text = refl

-- ---- the row of a key is there behind it, where one is kept

itself_text : (key : Bytes) → bytes_eq key key ≡ true
itself_text key = (bytes_eq-Decides key key).1 refl

there_by : (key : Bytes) (s : State) (e : Entry) → row (add_row key e.version e.fields e.times false s) key ≡ None → ⊥
unfolding add_row
there_by key s e none = by (row s key) (sym (find_joined (is_row_of key) s.instances (new ∷ []) ∙ ap (λ (b : Bool). first_of_two (row s key) (cond b (Some new) None)) (itself_text key)) ∙ none)
  where
    new : Known
    new = record { id = s.next_instance; key = key; version = e.version; fields = e.fields; times = e.times; is_retired = false; is_new = false }

    by : (o : Option Known) → first_of_two o (Some new) ≡ None → ⊥
    by None is = absurd (cc is)
    by (Some x) is = absurd (cc is)

pub there_then : (key : Bytes) (s : State) → row (with_row_of key s) key ≡ None → row_on_disk (with_row_of key s) key ≡ None
there_then key s = by (row s key) (row_on_disk s key) refl refl
  where
    by : (o : Option Known) (e : Option Entry) → row s key ≡ o → row_on_disk s key ≡ e → row (with_entry key (elim o as (λ t. Option Entry) [ Some x ↦ None | None ↦ e ]) s) key ≡ None
        → row_on_disk (with_entry key (elim o as (λ t. Option Entry) [ Some x ↦ None | None ↦ e ]) s) key ≡ None
    by (Some x) e is kept none = absurd (cc (sym is ∙ none))
    by None None is kept none = kept
    by None (Some e) is kept none = absurd (there_by key s e none)
