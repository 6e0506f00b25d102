-- A text is cut in one way at most.
use Rattle.std.proofs.Common.{◌≡◌, ℕ, Bool, true, false, not, nat_eq, List, [], ◌∷◌, ◌++◌, refl, sym, ap, ◌∙◌, ◌&&◌, ◌||◌, append_assoc, inl, inr, if◌then◌else◌, arith}
use Rattle.std.specs.List.{list_all, flat_map}
use Rattle.std.proofs.lemmas.Bool.{and_parts, and_from, eqb-true}
use Rattle.std.proofs.lemmas.Bool.Decides.{eqb_tells}
use Rattle.orb_bytes.specs.Bytes.{is_empty, is_http_whitespace, is_token_byte}
use Rattle.orb_bytes.specs.Quoted.{unit_text, is_unit, Close, by_quote, by_end, by_backslash, close_text, is_at_end}
use Rattle.orb_bytes.proofs.QuotedLemmas.{stops_units, units_unique}
use Rattle.mime_types.specs.Spans.{begins_outside}
use Rattle.mime_types.specs.Mime.{Assigned, nothing, quoted, plain, assigned_text, is_no_semicolon, is_assigned, is_last, Segment, segment_text, is_name_byte, is_segment, segments_text, are_segments, is_token, Cut, IsCut, mime_of, HasOneRecord}
use Rattle.mime_types.proofs.SpanLemmas.{span_unique}
use Rattle.mime_types.proofs.BoolLemmas.{true_from_not_not}

-- what stands after the units of a valid segment stops them
pub close_stops : (c : Close) (i r : List ℕ)
    → (if is_at_end c then is_empty i else list_all is_no_semicolon i) ≡ true
    → (is_at_end c ≡ true → r ≡ []) → stops_units (close_text c ++ (i ++ r)) ≡ true
close_stops by_quote i r ignored end = refl
close_stops by_end [] r ignored end = rw (end refl) refl
close_stops by_end (b ∷ i) r ignored end = absurd (cc)
close_stops by_backslash [] r ignored end = rw (end refl) refl
close_stops by_backslash (b ∷ i) r ignored end = absurd (cc)

pub close_unique : (c d : Close) (i j r q : List ℕ)
    → (if is_at_end c then is_empty i else list_all is_no_semicolon i) ≡ true
    → (if is_at_end d then is_empty j else list_all is_no_semicolon j) ≡ true
    → (is_at_end c ≡ true → r ≡ []) → (is_at_end d ≡ true → q ≡ [])
    → begins_outside is_no_semicolon r ≡ true → begins_outside is_no_semicolon q ≡ true
    → close_text c ++ (i ++ r) ≡ close_text d ++ (j ++ q) → (c ≡ d) × (i ≡ j) × (r ≡ q)
close_unique by_quote by_quote i j r q is_i is_j end_r end_q out_r out_q same =
    let rest : i ++ r ≡ j ++ q = cc in
    let parts = span_unique is_no_semicolon i j r q is_i is_j out_r out_q rest in
    (refl, parts.0, parts.1)
close_unique by_quote by_end i [] r q is_i is_j end_r end_q out_r out_q same =
    let nothing_left = end_q refl in absurd (cc)
close_unique by_quote by_end i (b ∷ j) r q is_i is_j end_r end_q out_r out_q same = absurd (cc)
close_unique by_quote by_backslash i j r q is_i is_j end_r end_q out_r out_q same =
    let lie : ◌≡◌ {A = ℕ} 34 92 = cc in absurd (omega arith)
close_unique by_end by_quote [] j r q is_i is_j end_r end_q out_r out_q same =
    let nothing_left = end_r refl in absurd (cc)
close_unique by_end by_quote (b ∷ i) j r q is_i is_j end_r end_q out_r out_q same = absurd (cc)
close_unique by_end by_end [] [] r q is_i is_j end_r end_q out_r out_q same = (refl, refl, same)
close_unique by_end by_end [] (b ∷ j) r q is_i is_j end_r end_q out_r out_q same = absurd (cc)
close_unique by_end by_end (b ∷ i) j r q is_i is_j end_r end_q out_r out_q same = absurd (cc)
close_unique by_end by_backslash [] j r q is_i is_j end_r end_q out_r out_q same =
    let nothing_left = end_r refl in absurd (cc)
close_unique by_end by_backslash (b ∷ i) j r q is_i is_j end_r end_q out_r out_q same = absurd (cc)
close_unique by_backslash by_quote i j r q is_i is_j end_r end_q out_r out_q same =
    let lie : ◌≡◌ {A = ℕ} 92 34 = cc in absurd (omega arith)
close_unique by_backslash by_end i [] r q is_i is_j end_r end_q out_r out_q same =
    let nothing_left = end_q refl in absurd (cc)
close_unique by_backslash by_end i (b ∷ j) r q is_i is_j end_r end_q out_r out_q same = absurd (cc)
close_unique by_backslash by_backslash [] [] r q is_i is_j end_r end_q out_r out_q same =
    let rest : r ≡ q = cc in (refl, refl, rest)
close_unique by_backslash by_backslash [] (b ∷ j) r q is_i is_j end_r end_q out_r out_q same = absurd (cc)
close_unique by_backslash by_backslash (b ∷ i) j r q is_i is_j end_r end_q out_r out_q same = absurd (cc)

-- what a plain value begins with is no quote
plain_never_quoted : (v : List ℕ) (r x : List ℕ) → begins_outside (λ b. nat_eq b 34) v ≡ true
    → begins_outside is_no_semicolon r ≡ true → v ++ r ≡ 34 ∷ x → ⊥
plain_never_quoted [] [] x unquoted out same = cc
plain_never_quoted [] (b ∷ r) x unquoted out same =
    let first : b ≡ 34 = cc in
    let lie : false ≡ true = ap (λ e. begins_outside is_no_semicolon (e ∷ r)) (sym first) ∙ out in cc
plain_never_quoted (b ∷ v) r x unquoted out same =
    let first : b ≡ 34 = cc in
    let lie : false ≡ true = ap (λ e. begins_outside (λ b. nat_eq b 34) (e ∷ v)) (sym first) ∙ unquoted in cc

-- nothing is assigned where no `=` stands
never_equals : (r x : List ℕ) → begins_outside is_no_semicolon r ≡ true → r ≡ 61 ∷ x → ⊥
never_equals r x out same =
    let lie : false ≡ true = sym (ap (begins_outside is_no_semicolon) same) ∙ out in cc

pub assigned_unique : (f g : Assigned) (r q : List ℕ) → is_assigned f ≡ true → is_assigned g ≡ true
    → (is_last f ≡ true → r ≡ []) → (is_last g ≡ true → q ≡ [])
    → begins_outside is_no_semicolon r ≡ true → begins_outside is_no_semicolon q ≡ true
    → assigned_text f ++ r ≡ assigned_text g ++ q → (f ≡ g) × (r ≡ q)
assigned_unique nothing nothing r q is_f is_g end_r end_q out_r out_q same = (refl, same)
assigned_unique nothing (quoted us c i) r q is_f is_g end_r end_q out_r out_q same =
    absurd (never_equals r _ out_r same)
assigned_unique nothing (plain v) r q is_f is_g end_r end_q out_r out_q same =
    absurd (never_equals r _ out_r same)
assigned_unique (quoted us c i) nothing r q is_f is_g end_r end_q out_r out_q same =
    absurd (never_equals q _ out_q (sym same))
assigned_unique (plain v) nothing r q is_f is_g end_r end_q out_r out_q same =
    absurd (never_equals q _ out_q (sym same))
assigned_unique (quoted us c i) (plain v) r q is_f is_g end_r end_q out_r out_q same =
    let rest : v ++ q ≡ 34 ∷ ((flat_map unit_text us ++ (close_text c ++ i)) ++ r) = cc in
    absurd (plain_never_quoted v q _
    (and_parts (begins_outside (λ b. nat_eq b 34) v) (list_all is_no_semicolon v) is_g).0 out_q rest)
assigned_unique (plain v) (quoted us c i) r q is_f is_g end_r end_q out_r out_q same =
    let rest : v ++ r ≡ 34 ∷ ((flat_map unit_text us ++ (close_text c ++ i)) ++ q) = cc in
    absurd (plain_never_quoted v r _
    (and_parts (begins_outside (λ b. nat_eq b 34) v) (list_all is_no_semicolon v) is_f).0 out_r rest)
assigned_unique (plain v) (plain w) r q is_f is_g end_r end_q out_r out_q same =
    let rest : v ++ r ≡ w ++ q = cc in
    let parts = span_unique is_no_semicolon v w r q
    (and_parts (begins_outside (λ b. nat_eq b 34) v) (list_all is_no_semicolon v) is_f).1
    (and_parts (begins_outside (λ b. nat_eq b 34) w) (list_all is_no_semicolon w) is_g).1 out_r out_q rest in
    (ap plain parts.0, parts.1)
assigned_unique (quoted us c i) (quoted vs d j) r q is_f is_g end_r end_q out_r out_q same =
    let units_f = and_parts (list_all is_unit us) (if is_at_end c then is_empty i else list_all is_no_semicolon i) is_f in
    let units_g = and_parts (list_all is_unit vs) (if is_at_end d then is_empty j else list_all is_no_semicolon j) is_g in
    let inner : (flat_map unit_text us ++ (close_text c ++ i)) ++ r ≡ (flat_map unit_text vs ++ (close_text d ++ j)) ++ q = cc in
    let regrouped : flat_map unit_text us ++ (close_text c ++ (i ++ r)) ≡ flat_map unit_text vs ++ (close_text d ++ (j ++ q)) =
    simp append_assoc at inner in
    let units = units_unique us vs (close_text c ++ (i ++ r)) (close_text d ++ (j ++ q)) units_f.0 units_g.0
    (close_stops c i r units_f.1 end_r) (close_stops d j q units_g.1 end_q) regrouped in
    let closes = close_unique c d i j r q units_f.1 units_g.1 end_r end_q out_r out_q units.1 in
    let same_units : us ≡ vs = units.0 in
    let same_close : c ≡ d = closes.0 in
    let same_ignored : i ≡ j = closes.1 in
    (cc, closes.2)

-- a byte at which bytes other than `;` end
pub is_semicolon : (b : ℕ) (r : List ℕ) → begins_outside is_no_semicolon (b ∷ r) ≡ true → b ≡ 59
is_semicolon b r out = eqb-true b 59 (true_from_not_not (nat_eq b 59) out)

-- what stands after a name doesn't go on with it
pub assigned_begins : (f : Assigned) (r : List ℕ) → begins_outside is_no_semicolon r ≡ true
    → begins_outside is_name_byte (assigned_text f ++ r) ≡ true
assigned_begins nothing [] out = refl
assigned_begins nothing (b ∷ r) out =
    ap (λ e. begins_outside is_name_byte (e ∷ r)) (is_semicolon b r out)
assigned_begins (quoted us c i) r out = refl
assigned_begins (plain v) r out = refl

-- what stands after the white space of a segment is no white space
pub name_begins : (name : List ℕ) (f : Assigned) (r : List ℕ) → begins_outside is_http_whitespace name ≡ true
    → begins_outside is_no_semicolon r ≡ true
    → begins_outside is_http_whitespace (name ++ (assigned_text f ++ r)) ≡ true
name_begins [] nothing [] outside out = refl
name_begins [] nothing (b ∷ r) outside out =
    ap (λ e. begins_outside is_http_whitespace (e ∷ r)) (is_semicolon b r out)
name_begins [] (quoted us c i) r outside out = refl
name_begins [] (plain v) r outside out = refl
name_begins (b ∷ name) f r outside out = outside

-- a segment's parts are valid
pub record AreParts (s : Segment) : Type 0 where
  pub space : list_all is_http_whitespace s.space ≡ true
  pub begins : begins_outside is_http_whitespace s.name ≡ true
  pub name : list_all is_name_byte s.name ≡ true
  pub assigned : is_assigned s.assigned ≡ true

pub parts_of : (s : Segment) → is_segment s ≡ true → AreParts s
parts_of s is =
    let space = and_parts (list_all is_http_whitespace s.space) (begins_outside is_http_whitespace s.name && (list_all is_name_byte s.name && is_assigned s.assigned)) is in
    let begins = and_parts (begins_outside is_http_whitespace s.name) (list_all is_name_byte s.name && is_assigned s.assigned) space.1 in
    let name = and_parts (list_all is_name_byte s.name) (is_assigned s.assigned) begins.1 in
    record { space = space.0; begins = begins.0; name = name.0; assigned = name.1 }

pub segment_unique : (s t : Segment) (r q : List ℕ) → is_segment s ≡ true → is_segment t ≡ true
    → (is_last s.assigned ≡ true → r ≡ []) → (is_last t.assigned ≡ true → q ≡ [])
    → begins_outside is_no_semicolon r ≡ true → begins_outside is_no_semicolon q ≡ true
    → segment_text s ++ r ≡ segment_text t ++ q → (s ≡ t) × (r ≡ q)
segment_unique s t r q is_s is_t end_r end_q out_r out_q same =
    let of_s = parts_of s is_s in
    let of_t = parts_of t is_t in
    let inner : (s.space ++ (s.name ++ assigned_text s.assigned)) ++ r ≡ (t.space ++ (t.name ++ assigned_text t.assigned)) ++ q = cc in
    let regrouped : s.space ++ (s.name ++ (assigned_text s.assigned ++ r)) ≡ t.space ++ (t.name ++ (assigned_text t.assigned ++ q)) =
    simp append_assoc at inner in
    let spaces = span_unique is_http_whitespace s.space t.space _ _ of_s.space of_t.space
    (name_begins s.name s.assigned r of_s.begins out_r) (name_begins t.name t.assigned q of_t.begins out_q) regrouped in
    let names = span_unique is_name_byte s.name t.name _ _ of_s.name of_t.name
    (assigned_begins s.assigned r out_r) (assigned_begins t.assigned q out_q) spaces.1 in
    let assigned = assigned_unique s.assigned t.assigned r q of_s.assigned of_t.assigned end_r end_q out_r out_q names.1 in
    let same_space : s.space ≡ t.space = spaces.0 in
    let same_name : s.name ≡ t.name = names.0 in
    let same_assigned : s.assigned ≡ t.assigned = assigned.0 in
    (λ i. record { space = same_space i; name = same_name i; assigned = same_assigned i }, assigned.1)

pub segments_begin : (ss : List Segment) → begins_outside is_no_semicolon (segments_text ss) ≡ true
segments_begin [] = refl
segments_begin (s ∷ ss) = refl

-- what the validity of segments says of the first
pub record AreFirst (s : Segment) (ss : List Segment) : Type 0 where
  pub first : is_segment s ≡ true
  pub last : is_last s.assigned ≡ true → segments_text ss ≡ []
  pub rest : are_segments ss ≡ true

never_last : (last : Bool) → (not last || false) ≡ true → last ≡ true → ⊥
never_last true alone is = cc
never_last false alone is = cc

pub first_of : (s : Segment) (ss : List Segment) → are_segments (s ∷ ss) ≡ true → AreFirst s ss
first_of s [] are = record { first = (and_parts (is_segment s) _ are).0; last = λ is. refl; rest = refl }
first_of s (t ∷ ss) are =
    let first = and_parts (is_segment s) ((not (is_last s.assigned) || false) && are_segments (t ∷ ss)) are in
    let more = and_parts (not (is_last s.assigned) || false) (are_segments (t ∷ ss)) first.1 in
    record { first = first.0; last = λ is. absurd (never_last (is_last s.assigned) more.0 is); rest = more.1 }

pub segments_unique : (ss ts : List Segment) → are_segments ss ≡ true → are_segments ts ≡ true
    → segments_text ss ≡ segments_text ts → ss ≡ ts
segments_unique [] [] are_ss are_ts same = refl
segments_unique [] (t ∷ ts) are_ss are_ts same = absurd (cc)
segments_unique (s ∷ ss) [] are_ss are_ts same = absurd (cc)
segments_unique (s ∷ ss) (t ∷ ts) are_ss are_ts same =
    let of_s = first_of s ss are_ss in
    let of_t = first_of t ts are_ts in
    let firsts = segment_unique s t (segments_text ss) (segments_text ts) of_s.first of_t.first of_s.last of_t.last
    (segments_begin ss) (segments_begin ts) same in
    let rests = segments_unique ss ts of_s.rest of_t.rest firsts.1 in
    let same_first : s ≡ t = firsts.0 in
    cc

-- a byte other than `/`
abbrev pub is_no_slash : ℕ → Bool
is_no_slash b = not (nat_eq b 47)

-- one class holds another
pub class_within : (p q : ℕ → Bool) (text : List ℕ) → ((b : ℕ) → p b ≡ true → q b ≡ true)
    → list_all p text ≡ true → list_all q text ≡ true
class_within p q [] each are = refl
class_within p q (b ∷ text) each are =
    let parts = and_parts (p b) (list_all p text) are in
    and_from (q b) (list_all q text) (each b parts.0) (class_within p q text each parts.1)

-- a byte of a class is no byte outside of it
pub class_without : (p : ℕ → Bool) (b n : ℕ) → p n ≡ false → p b ≡ true → nat_eq b n ≡ false
class_without p b n outside inside =
    elim (eqb_tells b n) [
      | inl same ↦ absurd (let lie : true ≡ false = sym inside ∙ ap p same.1 ∙ outside in cc)
      | inr other ↦ other.0
    ]

pub class_without' : (p : ℕ → Bool) (b n : ℕ) → p n ≡ false → p b ≡ true → nat_eq n b ≡ false
class_without' p b n outside inside =
    elim (eqb_tells n b) [
      | inl same ↦ absurd (let lie : true ≡ false = sym inside ∙ ap p (sym same.1) ∙ outside in cc)
      | inr other ↦ other.0
    ]

pub token_no_slash : (b : ℕ) → is_token_byte b ≡ true → is_no_slash b ≡ true
token_no_slash b token = ap not (class_without is_token_byte b 47 refl token)

pub token_no_semicolon : (b : ℕ) → is_token_byte b ≡ true → is_no_semicolon b ≡ true
token_no_semicolon b token = ap not (class_without is_token_byte b 59 refl token)

pub space_no_semicolon : (b : ℕ) → is_http_whitespace b ≡ true → is_no_semicolon b ≡ true
space_no_semicolon b space = ap not (class_without is_http_whitespace b 59 refl space)

pub token_no_space : (b : ℕ) → is_token_byte b ≡ true → is_http_whitespace b ≡ false
token_no_space b token =
    let tab = class_without' is_token_byte b 9 refl token in
    let line_feed = class_without' is_token_byte b 10 refl token in
    let carriage_return = class_without' is_token_byte b 13 refl token in
    let space = class_without' is_token_byte b 32 refl token in
    rw (tab, line_feed, carriage_return, space) refl

pub space_no_token : (b : ℕ) → is_http_whitespace b ≡ true → not (is_token_byte b) ≡ true
space_no_token b space =
    elim (is_token_byte b) as (λ v. is_token_byte b ≡ v → not v ≡ true) [
      | true ↦ λ token. absurd (let lie : true ≡ false = sym space ∙ token_no_space b token in cc)
      | false ↦ λ other. refl
    ] refl

-- the bytes of a token
pub token_bytes : (text : List ℕ) → is_token text ≡ true → list_all is_token_byte text ≡ true
token_bytes text token = (and_parts (not (is_empty text)) (list_all is_token_byte text) token).1

-- what stands after the subtype is no token byte
pub space_begins : (space : List ℕ) (ss : List Segment) → list_all is_http_whitespace space ≡ true
    → begins_outside is_token_byte (space ++ segments_text ss) ≡ true
space_begins [] [] are = refl
space_begins [] (s ∷ ss) are = refl
space_begins (b ∷ space) ss are =
    space_no_token b (and_parts (is_http_whitespace b) (list_all is_http_whitespace space) are).0

pub segments_outside : (ss : List Segment) → begins_outside is_http_whitespace (segments_text ss) ≡ true
segments_outside [] = refl
segments_outside (s ∷ ss) = refl

pub cut_unique : (text : List ℕ) (c d : Cut) → IsCut text c → IsCut text d → c ≡ d
cut_unique text c d of_c of_d =
    let mains = span_unique is_no_slash c.main d.main _ _
    (class_within is_token_byte is_no_slash c.main token_no_slash (token_bytes c.main of_c.main))
    (class_within is_token_byte is_no_slash d.main token_no_slash (token_bytes d.main of_d.main))
    refl refl (sym of_c.whole ∙ of_d.whole) in
    let after : c.sub ++ (c.space ++ segments_text c.segments) ≡ d.sub ++ (d.space ++ segments_text d.segments) = cc in
    let subs = span_unique is_token_byte c.sub d.sub _ _ (token_bytes c.sub of_c.sub) (token_bytes d.sub of_d.sub)
    (space_begins c.space c.segments of_c.space) (space_begins d.space d.segments of_d.space) after in
    let spaces = span_unique is_http_whitespace c.space d.space _ _ of_c.space of_d.space
    (segments_outside c.segments) (segments_outside d.segments) subs.1 in
    let segments = segments_unique c.segments d.segments of_c.segments of_d.segments spaces.1 in
    λ i. record { main = mains.0 i; sub = subs.0 i; space = spaces.0 i; segments = segments i }

pub one_record : HasOneRecord
one_record text m n of_m of_n = of_m.2 ∙ ap mime_of (cut_unique text of_m.0 of_n.0 of_m.1 of_n.1) ∙ sym of_n.2
