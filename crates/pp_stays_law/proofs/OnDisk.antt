-- What is kept on the disk stands for the law's entries, as long as those stand, but for whether one is stale.
use Rattle.std.proofs.Common.{◌≡◌, ◌++◌, sym, subst, refl, ℕ, false, List, [], ◌∷◌}
use Rattle.std.specs.List.{list_any}
use Rattle.pp_cache_law.specs.Outdated.{AreNoted}
use Rattle.pp_flow_law.specs.Frames.{emptied}
use Rattle.pp_keeps_law.specs.Stands.{HasOpenNames}
use Rattle.pp_law.specs.After.{new_conn, out}
use Rattle.pp_law.specs.Connections.{end_exchange, lose_attempt, on_conn, on_exchange, put_on}
use Rattle.pp_law.specs.Lists.{Bytes, has_text}
use Rattle.pp_law.specs.State.{State, Entry, Exchange}
use Rattle.pp_shelf_law.specs.Shelf.{AreKept, ShowsShelf}
use Rattle.pp_store.specs.Kept.{KeptMap}
use Rattle.pp_stays_law.proofs.Law.{Any}
use Rattle.pp_stays_law.proofs.Stale.{IsAlike, kept_as_before, lost_alike, open_as_before}

-- which entries stand no more is noted by these names; the shelf shows them; and none has a closed name
pub record IsKeptBy (shelf : KeptMap) (names : List Bytes) (s : State) : Type 0 where
  pub noted : AreNoted names s.displaced s.entries
  pub shows : ShowsShelf shelf s
  pub open_names : HasOpenNames s

module _ (shelf : KeptMap) (names : List Bytes) where
  same_disk : (s t : State) → t.entries ≡ s.entries → t.displaced ≡ s.displaced → t.closed_names ≡ s.closed_names → IsKeptBy shelf names s → IsKeptBy shelf names t
  same_disk s t entries displaced closed its = record {
    noted = subst (λ (keys : List Bytes). AreNoted names keys t.entries) (sym displaced) (subst (λ (es : List Entry). AreNoted names s.displaced es) (sym entries) its.noted);
    shows = subst (λ (ns : List Bytes). AreKept shelf t.entries ns) (sym closed) (subst (λ (es : List Entry). AreKept shelf es s.closed_names) (sym entries) its.shows);
    open_names =
        subst (λ (ns : List Bytes). list_any (λ (e : Entry). has_text e.name ns) t.entries ≡ false) (sym closed)
        (subst (λ (es : List Entry). list_any (λ (e : Entry). has_text e.name s.closed_names) es ≡ false) (sym entries) its.open_names);
  }

  over_disk : (n : ℕ) (s : State) → IsKeptBy shelf names s → IsKeptBy shelf names (end_exchange n s)
  unfolding end_exchange
  over_disk n s its = same_disk s (end_exchange n s) refl refl refl its

  out_disk : (n : ℕ) (s : State) → IsKeptBy shelf names s → IsKeptBy shelf names (out n s)
  unfolding out
  out_disk n s its = same_disk s (out n s) refl refl refl its

  pub any_disk : Any (IsKeptBy shelf names)
  any_disk = record { quiet = λ s t same its. same_disk s t same.entries same.displaced same.closed its; over = over_disk; out = out_disk }

  pub put_disk : (n k : ℕ) (s : State) → IsKeptBy shelf names s → IsKeptBy shelf names (put_on n k s)
  unfolding put_on on_conn on_exchange
  put_disk n k s its = same_disk s (put_on n k s) refl refl refl its

  pub empty_disk : (n : ℕ) (s : State) → IsKeptBy shelf names s → IsKeptBy shelf names (on_conn n emptied s)
  unfolding on_conn
  empty_disk n s its = same_disk s (on_conn n emptied s) refl refl refl its

  pub opened_disk : (m : ℕ) (host : Bytes) (port now : ℕ) (s : State) → IsKeptBy shelf names s → IsKeptBy shelf names (record s { conns = s.conns ++ new_conn m host port now ∷ []; top = m })
  opened_disk m host port now s its = same_disk s (record s { conns = s.conns ++ new_conn m host port now ∷ []; top = m }) refl refl refl its

-- ---- an attempt is lost: other names may be noted then

pub lost_disk : (shelf : KeptMap) (names others : List Bytes) (e : Exchange) (s : State) → AreNoted others (lose_attempt e s).displaced (lose_attempt e s).entries → IsKeptBy shelf names s → IsKeptBy shelf others (lose_attempt e s)
lost_disk shelf names others e s noted its =
    let alike : IsAlike s (lose_attempt e s) = lost_alike e s in
    record {
      noted = noted;
      shows = subst (λ (ns : List Bytes). AreKept shelf (lose_attempt e s).entries ns) (sym alike.closed) (kept_as_before shelf s.entries (lose_attempt e s).entries s.closed_names alike.entries its.shows);
      open_names =
          subst (λ (ns : List Bytes). list_any (λ (d : Entry). has_text d.name ns) (lose_attempt e s).entries ≡ false) (sym alike.closed)
          (open_as_before s.entries (lose_attempt e s).entries s.closed_names alike.entries its.open_names);
    }
