-- How the file of an entry stands on the disk, and what a crash leaves of it.
use Rattle.std.proofs.Common.{◌≡◌, ◌≢◌, ◌⊎◌, ⊎_elim, refl, ℕ, ◌+◌, ◌*◌, ◌<◌, ◌≤◌, Bool, true, false, List, [], ◌∷◌, ◌++◌, length, take, get_or, Some, inl, inr, sym, subst, ap, ◌∙◌, arith}
use Rattle.std.specs.Prelude.{min}
use Rattle.pp_entry.specs.Entries.{Row, row_at}
use Rattle.pp_entry.specs.Texts.{body_at, chunks_of}
use Rattle.pp_gate.specs.Files.{gate, body}
use Rattle.pp_gate.specs.Seal.{IsHonest}
use Rattle.pp_gate.proofs.GateLemmas.{honest_next}
use Rattle.pp_gate.proofs.Ops.{one_leaves}
use Rattle.pp_gate.proofs.PlaceLemmas.{gates_below}
use Rattle.pp_gate.proofs.SealLemmas.{same_head, gate_same, body_same}
use Rattle.pp_world.specs.Disk.{View, Stored, settled, is_loose, IsLeft}
use Rattle.pp_law.specs.Lists.{Bytes}
use Rattle.pp_law.specs.State.{Sent, Entry}
use Rattle.pp_laws.specs.Runs.{IsIn}
use Rattle.pp_laws_crash.proofs.Backing.{Backed, BackedAt, claimed, claimed_more, honest_backed}

-- the length of its body
abbrev pub len_of : Entry → ℕ
len_of e = e.version.length

-- these bytes are its file: so many gates are open and the next is not, and what is behind them was sent. How far an entry that is
-- stale reaches is not said
pub record Lies (sent : List Sent) (e : Entry) (gates : ℕ) (bytes : Bytes) : Type 0 where
  pub block : Bytes
  pub row : Row
  pub reads : row_at block ≡ Some row
  pub key : row.key ≡ e.key
  pub version : row.version ≡ e.version
  pub head : take 8192 bytes ≡ block
  pub is_open : (i : ℕ) → i < gates → gate bytes i ≡ 1
  pub shut_next : gates < chunks_of (len_of e) → gate bytes gates ≢ 1
  pub within : gates ≤ chunks_of (len_of e)
  pub long : body_at (len_of e) + min (len_of e) (4096 * gates) ≤ length bytes
  pub short : length bytes ≤ body_at (len_of e) + len_of e
  pub holds : (o : ℕ) → o < min (len_of e) (4096 * gates) → claimed sent block o (body (len_of e) bytes o) ≡ true
  pub extent : e.is_stale ≡ false → e.extent ≡ min (len_of e) (4096 * gates)

row_length : {sent : List Sent} {e : Entry} {gates : ℕ} {bytes : Bytes} → (l : Lies sent e gates bytes) → l.row.version.length ≡ len_of e
row_length l = ap (λ v. v.length) l.version

pub lies_honest : {sent : List Sent} {e : Entry} {gates : ℕ} {bytes : Bytes} → (l : Lies sent e gates bytes) → IsHonest (claimed sent) l.block (len_of e) (min (len_of e) (4096 * gates)) (Some bytes)
lies_honest {sent} {e} {gates} {bytes} l = honest_next (claimed sent) l.block (len_of e) gates gates bytes (omega arith) l.within l.head l.is_open l.shut_next l.long l.short l.holds

pub lies_backed : {sent : List Sent} {e : Entry} {gates : ℕ} {bytes : Bytes} → (name : Bytes) → Lies sent e gates bytes → BackedAt sent name (Some bytes)
lies_backed {sent} {e} {gates} {bytes} name l = honest_backed sent l.block (len_of e) (min (len_of e) (4096 * gates)) name l.row (Some bytes) l.reads (row_length l) (lies_honest l)

pub lies_more : {e : Entry} {gates : ℕ} {bytes : Bytes} → (newer sent : List Sent) → Lies sent e gates bytes → Lies (newer ++ sent) e gates bytes
lies_more newer sent l = record {
  block = l.block;
  row = l.row;
  reads = l.reads;
  key = l.key;
  version = l.version;
  head = l.head;
  is_open = l.is_open;
  shut_next = l.shut_next;
  within = l.within;
  long = l.long;
  short = l.short;
  holds = λ o lt. claimed_more newer sent l.block o _ (l.holds o lt);
  extent = l.extent;
}

-- an entry that is no less stale
pub lies_as : {sent : List Sent} {e : Entry} {gates : ℕ} {bytes : Bytes} → (d : Entry) → d.key ≡ e.key → d.version ≡ e.version → (d.is_stale ≡ false → d.extent ≡ min (len_of e) (4096 * gates)) → Lies sent e gates bytes → Lies sent d gates bytes
lies_as {sent} {e} {gates} {bytes} d key version extent l = by (sym version) extent
  where
    by : e.version ≡ d.version → (d.is_stale ≡ false → d.extent ≡ min (len_of e) (4096 * gates)) → Lies sent d gates bytes
    by same far =
        let size : len_of e ≡ len_of d = ap (λ v. v.length) same in
        record {
          block = l.block;
          row = l.row;
          reads = l.reads;
          key = l.key ∙ sym key;
          version = l.version ∙ same;
          head = l.head;
          is_open = l.is_open;
          shut_next = subst (λ n. gates < chunks_of n → gate bytes gates ≢ 1) size l.shut_next;
          within = subst (λ n. gates ≤ chunks_of n) size l.within;
          long = subst (λ n. body_at n + min n (4096 * gates) ≤ length bytes) size l.long;
          short = subst (λ n. length bytes ≤ body_at n + n) size l.short;
          holds = subst (λ n. (o : ℕ) → o < min n (4096 * gates) → claimed sent l.block o (body n bytes o) ≡ true) size l.holds;
          extent = subst (λ n. d.is_stale ≡ false → d.extent ≡ min n (4096 * gates)) size far;
        }

-- ---- files that differ behind the gate that is next alone

pub record SameBut (n gates : ℕ) (base c : Bytes) : Type 0 where
  pub size : length c ≡ length base
  pub same : (o : ℕ) → o < length base → (o ≤ 8192 + gates) ⊎ (8192 + chunks_of n ≤ o) → get_or c o 0 ≡ get_or base o 0

pub lies_same : {sent : List Sent} {e : Entry} {gates : ℕ} {base : Bytes} → (c : Bytes) → Lies sent e gates base → SameBut (len_of e) gates base c → Lies sent e gates c
lies_same {sent} {e} {gates} {base} c l but = record {
  block = l.block;
  row = l.row;
  reads = l.reads;
  key = l.key;
  version = l.version;
  head = same_head c base (omega (arith, but.size, l.long, gates_below (len_of e))) (omega (arith, l.long, gates_below (len_of e)))
      (λ o lt. but.same o (omega (arith, lt, l.long, gates_below (len_of e))) (inl (omega (arith, lt)))) ∙ l.head;
  is_open = λ i lt. gate_is i (omega (arith, lt)) (omega (arith, lt, l.within)) ∙ l.is_open i lt;
  shut_next = λ lt is. l.shut_next lt (sym (gate_is gates (omega arith) lt) ∙ is);
  within = l.within;
  long = omega (arith, l.long, but.size);
  short = omega (arith, l.short, but.size);
  holds = λ o lt. subst (λ x. claimed sent l.block o x ≡ true)
      (sym (body_same (len_of e) c base o (but.same (body_at (len_of e) + o) (omega (arith, lt, l.long)) (inr (omega (arith, gates_below (len_of e)))))))
      (l.holds o lt);
  extent = l.extent;
}
  where
    gate_is : (i : ℕ) → i ≤ gates → i < chunks_of (len_of e) → gate c i ≡ gate base i
    gate_is i le lt = gate_same c base i (but.same (8192 + i) (omega (arith, lt, l.long, gates_below (len_of e))) (inl (omega (arith, le))))

-- ---- under a name

-- it stands there, all of it through a crash; while a life recovers, gates may be open behind the one that is next
pub record Held (sent : List Sent) (recovers : Bool) (e : Entry) (v : View) : Type 0 where
  pub gates : ℕ
  pub bytes : Bytes
  pub slot : v.slot ≡ Some (settled bytes) ∷ []
  pub lies : Lies sent e gates bytes
  pub shut : recovers ≡ false → (i : ℕ) → gates ≤ i → i < chunks_of (len_of e) → gate bytes i ≢ 1

-- it stands there, but for gates behind the one that is next
pub record Loose (sent : List Sent) (e : Entry) (v : View) : Type 0 where
  pub gates : ℕ
  pub file : Stored
  pub slot : v.slot ≡ Some file ∷ []
  pub lies : Lies sent e gates file.bytes
  pub synced_is : file.synced ≡ length file.bytes
  pub end_is : file.end ≡ length file.bytes
  pub strays : (o : ℕ) → is_loose o file.loose ≡ true → (8192 + gates < o) × (o < 8192 + chunks_of (len_of e))

-- of each of these that has the name
abbrev pub HeldAll : List Sent → Bool → List Entry → Bytes → View → Type 0
HeldAll sent recovers entries name v = (e : Entry) → IsIn e entries → e.name ≡ name → Held sent recovers e v

abbrev pub LooseAll : List Sent → List Entry → Bytes → View → Type 0
LooseAll sent entries name v = (e : Entry) → IsIn e entries → e.name ≡ name → Loose sent e v

pub held_more : {recovers : Bool} {e : Entry} {v : View} → (newer sent : List Sent) → Held sent recovers e v → Held (newer ++ sent) recovers e v
held_more newer sent h = record { gates = h.gates; bytes = h.bytes; slot = h.slot; lies = lies_more newer sent h.lies; shut = h.shut }

pub loose_more : {e : Entry} {v : View} → (newer sent : List Sent) → Loose sent e v → Loose (newer ++ sent) e v
loose_more newer sent h = record { gates = h.gates; file = h.file; slot = h.slot; lies = lies_more newer sent h.lies; synced_is = h.synced_is; end_is = h.end_is; strays = h.strays }

pub settled_bytes : (b : Bytes) → (settled b).bytes ≡ b
unfolding settled
settled_bytes b = refl

pub settled_synced : (b : Bytes) → (settled b).synced ≡ length b
unfolding settled
settled_synced b = refl

pub settled_end : (b : Bytes) → (settled b).end ≡ length b
unfolding settled
settled_end b = refl

pub settled_tight : (b : Bytes) (o : ℕ) → is_loose o (settled b).loose ≡ false
unfolding settled
settled_tight b o = refl

pub none_loose : {A : Type 0} {b : Bool} → b ≡ false → b ≡ true → A
none_loose isnt is = let both : false ≡ true = sym isnt ∙ is in absurd (cc both)

abbrev pub held_loose : {sent : List Sent} {recovers : Bool} {e : Entry} {v : View} → Held sent recovers e v → Loose sent e v
held_loose {sent} {recovers} {e} {v} h = record {
  gates = h.gates;
  file = settled h.bytes;
  slot = h.slot;
  lies = subst (λ b. Lies sent e h.gates b) (sym (settled_bytes h.bytes)) h.lies;
  synced_is = settled_synced h.bytes ∙ ap (λ (b : Bytes). length b) (sym (settled_bytes h.bytes));
  end_is = settled_end h.bytes ∙ ap (λ (b : Bytes). length b) (sym (settled_bytes h.bytes));
  strays = λ o is. none_loose (settled_tight h.bytes o) is;
}

-- what a crash leaves of it
unlike : (b : Bool) → (b ≡ true → ⊥) → b ≡ false
unlike true never = absurd (never refl)
unlike false never = refl

pub loose_but : {sent : List Sent} {e : Entry} {v : View} → (h : Loose sent e v) → (c : Bytes) → IsLeft h.file c → SameBut (len_of e) h.gates h.file.bytes c
loose_but {sent} {e} {v} h c left = record {
  size = omega (arith, left.no_shorter, left.no_longer, h.synced_is, h.end_is);
  same = λ o lt at. left.same o (omega (arith, lt, h.synced_is)) (unlike (is_loose o h.file.loose) (λ loose. let where_is = h.strays o loose in
      ⊎_elim (λ (low : o ≤ 8192 + h.gates). omega (arith, low, where_is.0)) (λ (high : 8192 + chunks_of (len_of e) ≤ o). omega (arith, high, where_is.1)) at));
}

pub loose_backed : {sent : List Sent} {e : Entry} {v : View} → (name : Bytes) → Loose sent e v → Backed sent name v
loose_backed {sent} {e} {v} name h = one_leaves h.file (BackedAt sent name) v.slot h.slot (λ c left. lies_backed name (lies_same c h.lies (loose_but h c left)))

pub held_backed : {sent : List Sent} {recovers : Bool} {e : Entry} {v : View} → (name : Bytes) → Held sent recovers e v → Backed sent name v
held_backed name h = loose_backed name (held_loose h)
