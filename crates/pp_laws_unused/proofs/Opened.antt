-- How a life begins: what each call of its opening leaves, and rows that leave, where nothing is there.
use Rattle.std.proofs.Common.{◌≡◌, refl, ℕ, Bool, true, false, not, ◌==◌, List, map, filter, find, Option, Some, None, sym, ap, ◌∙◌}
use Rattle.pp_conf.specs.Conf.{Settings}
use Rattle.pp_conf.specs.Words.{reading_of}
use Rattle.pp_world.specs.Files.{Files}
use Rattle.pp_law.specs.After.{brings_to, dropping_body, paid, refused_row, unread, waits_for_row}
use Rattle.pp_law.specs.Chunks.{note_use}
use Rattle.pp_law.specs.Lists.{Bytes, change}
use Rattle.pp_law.specs.Opening.{are_texts, begun, configured, names_file, opened_to, settings_in, stuck, with_settings, woken}
use Rattle.pp_law.specs.Replies.{regained, regained_by}
use Rattle.pp_law.specs.State.{State, Chunk, Client, Entry, Exchange, Instance, Phase, Free, IsStuck, IsWoken, RowRefused}
use Rattle.pp_law.specs.Store.{close_name, load, load_from}
use Rattle.pp_law.specs.Table.{forget, is_instance, is_row_of, kept_row, row}
use Rattle.pp_opening_law.specs.Openings.{IsUnused}
use Rattle.pp_laws_unused.proofs.Seen.{Early, closed_seen, early_as, lost_seen}

-- ---- the calls of an opening

in_phase_unused : (p : Phase) (s : State) → IsUnused s → IsUnused (record s { phase = p })
in_phase_unused p s u = record { clients = u.clients; conns = u.conns; exchanges = u.exchanges; begun = u.begun; instances = u.instances; chunks = u.chunks; clock = u.clock; still = u.still; goes = u.goes }

stuck_unused : (s : State) → IsUnused s → IsUnused (stuck s)
unfolding stuck
stuck_unused s u = record { clients = u.clients; conns = u.conns; exchanges = u.exchanges; begun = u.begun; instances = u.instances; chunks = u.chunks; clock = u.clock; still = u.still; goes = u.goes }

pub opened_unused : (p : Phase) (ok : Bool) (s : State) → IsUnused s → IsUnused (opened_to p ok s)
unfolding opened_to
opened_unused p true s u = in_phase_unused p s u
opened_unused p false s u = stuck_unused s u

set_unused : (o : Option Settings) (s : State) → IsUnused s → IsUnused (with_settings o s)
unfolding with_settings
set_unused None s u = in_phase_unused IsStuck s u
set_unused (Some c) s u = record { clients = u.clients; conns = u.conns; exchanges = u.exchanges; begun = u.begun; instances = u.instances; chunks = u.chunks; clock = u.clock; still = u.still; goes = u.goes }

pub configured_unused : (text : Option Bytes) (s : State) → IsUnused s → IsUnused (configured text s)
unfolding configured
configured_unused None s u = stuck_unused s u
configured_unused (Some text) s u = set_unused (settings_in (reading_of s.term.words (Some text))) s u

begun_unused : (s : State) → IsUnused s → IsUnused (begun s)
unfolding begun
begun_unused s u = by (are_texts s.term) (names_file s.term)
  where
    by : (texts names : Bool) → IsUnused (elim texts as (λ c. State) [
      | false ↦ with_settings None s
      | true ↦ elim names as (λ c. State) [ true ↦ record s { phase = IsWoken } | false ↦ with_settings (settings_in (reading_of s.term.words None)) s ]
    ])
    by false names = set_unused None s u
    by true true = in_phase_unused IsWoken s u
    by true false = set_unused (settings_in (reading_of s.term.words None)) s u

pub woken_unused : (image : Files) (s : State) → IsUnused (woken image s)
unfolding woken
woken_unused image s = begun_unused _ (record { clients = refl; conns = refl; exchanges = refl; begun = refl; instances = refl; chunks = refl; clock = refl; still = refl; goes = refl })

-- ---- attempts, and what could not be read

pub paid_early : (s : State) → Early s → Early (paid s)
unfolding paid regained
paid_early s h is = let u = h is in record {
  clients = ap (λ (cs : List Client). map_of cs) u.clients;
  conns = u.conns;
  exchanges = u.exchanges;
  begun = u.begun;
  instances = u.instances;
  chunks = u.chunks;
  clock = u.clock;
  still = u.still;
  goes = u.goes;
}
  where
    map_of : List Client → List Client
    map_of cs = map (regained_by (record s { owed = Free })) cs

pub unread_early : (name : Bytes) (s : State) → Early s → Early (unread name s)
unfolding unread
unread_early name s h = paid_early _ (early_as s _ (lost_seen name (close_name name s) ∙ closed_seen name s) h)

-- ---- rows

pub forgotten_unused : (n : ℕ) (s : State) → IsUnused s → IsUnused (forget n s)
unfolding forget
forgotten_unused n s u = record {
  clients = u.clients;
  conns = u.conns;
  exchanges = u.exchanges;
  begun = u.begun;
  instances = ap (λ (xs : List Instance). filter (λ x. not (is_instance n x)) xs) u.instances;
  chunks = ap (λ (cs : List Chunk). filter (λ (c : Chunk). not (c.instance == n)) cs) u.chunks;
  clock = u.clock;
  still = u.still;
  goes = u.goes;
}

pub refused_unused : (x : Instance) (s : State) → IsUnused s → IsUnused (refused_row x s)
unfolding refused_row
refused_unused x s u = let v = forgotten_unused x.id s u in record {
  clients = ap (λ (cs : List Client). change (waits_for_row x.id) (λ c. record c { course = RowRefused }) cs) v.clients;
  conns = v.conns;
  exchanges = ap (λ (es : List Exchange). change (brings_to x.id) dropping_body es) v.exchanges;
  begun = v.begun;
  instances = v.instances;
  chunks = v.chunks;
  clock = v.clock;
  still = v.still;
  goes = v.goes;
}

-- no chunk is read where there is no row
pub loaded_early : (key : Bytes) (i : ℕ) (s : State) → Early s → Early (load key i s)
unfolding load load_from note_use
loaded_early key i s h = by (row s key) refl (kept_row s key)
  where
    no_row : (x : Instance) → row s key ≡ Some x → IsUnused s → ⊥
    no_row x is u = let both : None ≡ Some x = sym (ap (λ (xs : List Instance). find (is_row_of key) xs) u.instances) ∙ is in cc both

    by : (o : Option Instance) → row s key ≡ o → (p : Option Entry) → Early (elim o as (λ c. State) [ None ↦ s | Some x ↦ elim p as (λ c. State) [ None ↦ s | Some e ↦ load_from x e i s ] ])
    by None none p = h
    by (Some x) some None = h
    by (Some x) some (Some e) = λ is. absurd (no_row x some (h is))
