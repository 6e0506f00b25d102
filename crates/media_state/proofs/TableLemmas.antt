-- Entries in the order of their ids, and the table that they are.
use Rattle.std.proofs.Common.{◌≡◌, ℕ, zero, suc, ◌<◌, T, Bool, ◌&&◌, true, false, is_some, [], ◌∷◌, length, get_or, set, insert, Some, None, Result, Ok, Err, IfOk, IfErr, refl, sym, ap, subst, ◌∙◌, Less, Equal, Greater, arith}
use Rattle.std.specs.Ordering.{nat_cmp, is_lt, ordering_index}
use Rattle.std.specs.Cmp.{nat_cmp_total}
use Rattle.std.specs.FinMap as map
use Rattle.std.specs.FinMap.{entries-from_sorted, entries-insert, get-from_sorted, len-entries, empty_of_len, same_entries_map}
use Rattle.std.specs.FinMap.Entries.{below_all, is_sorted-put}
use Rattle.std.specs.List.Sorted.{IsSearchInRange, IsBinarySearchResult, IsNonDecreasingBy}
use Rattle.std.proofs.lemmas.Bool.Decides.{nat_tests}
use Rattle.std.proofs.lemmas.Cmp.{ranked}
use Rattle.media_state.specs.declared.states.MediaState.{MediaState}
use Rattle.media_state.specs.declared.states.MediaState.TheVariants.{Initial}
use Rattle.media_state.specs.Table.{States, admitted}
use Rattle.media_state.specs.Entries.{Entries, AreInOrder, StandsAt, HasGapAt}

-- ---- ids in order

abbrev Entry : Type 0
Entry = ℕ × MediaState

both : (a b : Bool) → T (a && b) → T a × T b
both true b is = (tt, is)
both false b is = absurd is

is_less : (x y : ℕ) → T (is_lt (nat_cmp x y)) → x < y
is_less x y is = grind (arith, nat_tests)

higher_all : (id : ℕ) (es : Entries) → T (below_all nat_cmp id es) → (k : ℕ) (d : Entry) → k < length es → id < (get_or es k d).0
higher_all id [] is k d within = absurd (omega arith)
higher_all id (e ∷ es) is zero d within = is_less id e.0 (both _ _ is).0
higher_all id (e ∷ es) is (suc k) d within = higher_all id es (both _ _ is).1 k d (omega arith)

-- each id is lower than a later one
pub rises : (es : Entries) → AreInOrder es → (i j : ℕ) (d : Entry) → i < j → j < length es → (get_or es i d).0 < (get_or es j d).0
rises [] order i j d lower within = absurd (omega arith)
rises (e ∷ es) order i zero d lower within = absurd (omega arith)
rises (e ∷ es) order zero (suc j) d lower within = higher_all e.0 es (both _ _ order).0 j d (omega arith)
rises (e ∷ es) order (suc i) (suc j) d lower within = rises es (both _ _ order).1 i j d (omega arith) (omega arith)

module _ (es : Entries) (order : AreInOrder es) (id : ℕ) where
  -- so the comparisons with an id go up, as a binary search asks
  comparisons_rise : IsNonDecreasingBy (λ e. ordering_index (nat_cmp e.0 id)) es
  comparisons_rise i j d upto within =
      grind (arith, nat_tests, rises es order i j d, λ (same : i ≡ j). ap (λ k. (get_or es k d).0) same)

  -- the search ends at the id's entry, or at the gap for it
  pub searched : (r : Result ℕ ℕ) → IsSearchInRange r (length es) → IsBinarySearchResult (λ e. nat_cmp e.0 id) es r
      → record { found : IfOk r (StandsAt es id); gap : IfErr r (HasGapAt es id) }
  searched (Ok place) within equal =
      let here : (d : Entry) → (get_or es place d).0 ≡ id = λ d. ranked _ id Equal (sym (equal d)) in
      let stands : StandsAt es id place = record {
        within = within;
        lower = λ k d before. subst (λ n. (get_or es k d).0 < n) (here d) (rises es order k place d before within);
        here = here;
      } in
      record { found = stands; gap = tt }
  searched (Err place) within parted =
      let parts = parted comparisons_rise in
      let gap : HasGapAt es id place = record {
        within = within;
        lower = λ k d before. ranked _ id Less (sym (parts.0 k d (omega arith) before));
        higher = λ k d from within. ranked _ id Greater (sym (parts.1 k d from within));
      } in
      record { found = tt; gap = gap }

-- ---- an entry that is put at its place

less : (x y : ℕ) → x < y → nat_cmp x y ≡ Less
less x y is = grind (arith, nat_tests)

greater : (x y : ℕ) → y < x → nat_cmp x y ≡ Greater
greater x y is = grind (arith, nat_tests)

equal : (x y : ℕ) → y ≡ x → nat_cmp x y ≡ Equal
equal x y is = grind (arith, nat_tests)

tail_gap : (e : Entry) (es : Entries) (id place : ℕ) → HasGapAt (e ∷ es) id (suc place) → HasGapAt es id place
tail_gap e es id place gap = record {
  within = omega (arith, gap.within);
  lower = λ k d before. gap.lower (suc k) d (omega arith);
  higher = λ k d from within. gap.higher (suc k) d (omega arith) (omega arith);
}

tail_stands : (e : Entry) (es : Entries) (id place : ℕ) → StandsAt (e ∷ es) id (suc place) → StandsAt es id place
tail_stands e es id place stands = record {
  within = omega (arith, stands.within);
  lower = λ k d before. stands.lower (suc k) d (omega arith);
  here = stands.here;
}

pub put_in_gap : (es : Entries) (id place : ℕ) (s : MediaState) → HasGapAt es id place
    → insert es place (id, s) ≡ map.put nat_cmp id s es
put_in_gap [] id zero s gap = refl
put_in_gap [] id (suc place) s gap = absurd (omega (arith, gap.within))
put_in_gap (e ∷ es) id zero s gap = rw (less id e.0 (gap.higher 0 e (omega arith) (omega arith))) refl
put_in_gap (e ∷ es) id (suc place) s gap =
    rw (greater id e.0 (gap.lower 0 e (omega arith))) (ap (λ rest. e ∷ rest) (put_in_gap es id place s (tail_gap e es id place gap)))

pub put_at : (es : Entries) (id place : ℕ) (s : MediaState) → StandsAt es id place
    → set es place (id, s) ≡ map.put nat_cmp id s es
put_at [] id place s stands = absurd (omega (arith, stands.within))
put_at (e ∷ es) id zero s stands =
    rw (equal id e.0 (stands.here e)) (ap (λ n. (n, s) ∷ es) (sym (stands.here e)))
put_at (e ∷ es) id (suc place) s stands =
    rw (greater id e.0 (stands.lower 0 e (omega arith))) (ap (λ rest. e ∷ rest) (put_at es id place s (tail_stands e es id place stands)))

pub found_at : (es : Entries) (id place : ℕ) (d : Entry) → StandsAt es id place
    → map.find nat_cmp id es ≡ Some (get_or es place d).1
found_at [] id place d stands = absurd (omega (arith, stands.within))
found_at (e ∷ es) id zero d stands = rw (equal id e.0 (stands.here e)) refl
found_at (e ∷ es) id (suc place) d stands =
    rw (greater id e.0 (stands.lower 0 e (omega arith))) (found_at es id place d (tail_stands e es id place stands))

pub not_found : (es : Entries) (id place : ℕ) → HasGapAt es id place → map.find nat_cmp id es ≡ None
not_found [] id place gap = refl
not_found (e ∷ es) id zero gap =
    rw (less id e.0 (gap.higher 0 e (omega arith) (omega arith))) (not_found es id 0 (record {
      within = omega arith;
      lower = λ k d before. absurd (omega arith);
      higher = λ k d from within. gap.higher (suc k) d (omega arith) (omega arith);
    }))
not_found (e ∷ es) id (suc place) gap =
    rw (greater id e.0 (gap.lower 0 e (omega arith))) (not_found es id place (tail_gap e es id place gap))

-- ---- the table that entries in order are

abbrev pub view : Entries → States
view es = map.from_sorted es

pub view_none : (es : Entries) → es ≡ [] → view es ≡ map.empty
view_none es none =
    ap view none ∙ empty_of_len (view []) (len-entries (view []) ∙ ap length (entries-from_sorted nat_cmp [] tt))

order_put : (es : Entries) (id : ℕ) (s : MediaState) → AreInOrder es → AreInOrder (map.put nat_cmp id s es)
order_put es id s order = is_sorted-put nat_cmp nat_cmp_total id s es order

view_put : (es : Entries) (id : ℕ) (s : MediaState) → AreInOrder es
    → view (map.put nat_cmp id s es) ≡ map.insert (view es) id s
view_put es id s order =
    same_entries_map (view (map.put nat_cmp id s es)) (map.insert (view es) id s)
    (entries-from_sorted nat_cmp (map.put nat_cmp id s es) (order_put es id s order)
    ∙ sym (entries-insert nat_cmp_total (view es) id s
    ∙ ap (map.put nat_cmp id s) (entries-from_sorted nat_cmp es order)))

module _ (es : Entries) (order : AreInOrder es) (table : States) (same : view es ≡ table) (id place : ℕ) where
  get_table : map.get table id ≡ map.find nat_cmp id es
  get_table = ap (λ t. map.get t id) (sym same) ∙ get-from_sorted nat_cmp es id order

  pub len_table : map.len table ≡ length es
  len_table = ap map.len (sym same) ∙ len-entries (view es) ∙ ap length (entries-from_sorted nat_cmp es order)

  pub get_kept : (d : Entry) → StandsAt es id place → Some (get_or es place d).1 ≡ map.get table id
  get_kept d stands = sym (get_table ∙ found_at es id place d stands)

  pub get_new : HasGapAt es id place → None ≡ map.get table id
  get_new gap = sym (get_table ∙ not_found es id place gap)

  pub is_kept : StandsAt es id place → map.contains_key table id ≡ true
  is_kept stands = ap is_some (sym (get_kept (0, Initial) stands))

  pub is_new : HasGapAt es id place → map.contains_key table id ≡ false
  is_new gap = ap is_some (sym (get_new gap))

  pub inserted : (s : MediaState) → HasGapAt es id place → view (insert es place (id, s)) ≡ map.insert table id s
  inserted s gap =
      ap view (put_in_gap es id place s gap) ∙ view_put es id s order ∙ ap (λ t. map.insert t id s) same

  pub written : (s : MediaState) → StandsAt es id place → view (set es place (id, s)) ≡ map.insert table id s
  written s stands =
      ap view (put_at es id place s stands) ∙ view_put es id s order ∙ ap (λ t. map.insert t id s) same

  pub inserted_order : (s : MediaState) → HasGapAt es id place → AreInOrder (insert es place (id, s))
  inserted_order s gap = subst AreInOrder (sym (put_in_gap es id place s gap)) (order_put es id s order)

  pub written_order : (s : MediaState) → StandsAt es id place → AreInOrder (set es place (id, s))
  written_order s stands = subst AreInOrder (sym (put_at es id place s stands)) (order_put es id s order)

  -- an id that is kept is admitted with nothing changed, and a new one as `Initial`
  pub admitted_kept : StandsAt es id place → table ≡ admitted table id
  admitted_kept stands = rw (is_kept stands) refl

  pub admitted_new : HasGapAt es id place → view (insert es place (id, Initial)) ≡ admitted table id
  admitted_new gap = inserted Initial gap ∙ rw (is_new gap) refl
