-- A piece that is cut into chunks.
use Rattle.std.proofs.Common.{◌≡◌, ℕ, ◌+◌, ◌<◌, List, [], ◌∷◌, ◌++◌, length, take, drop, refl, sym, ap, ◌∙◌, subst, arith, append_assoc, length-append}
use Rattle.std.proofs.lemmas.List.{append-nil, take-append-drop}
use Rattle.orb_io.specs.Told.{Told, Agrees, Gains, GainsPrefix, Gives, IsPrefix}
use Rattle.orb_io.proofs.ToldLemmas.{GainsPrefix-after, GainsPrefix-longer}
use Rattle.orb_io.proofs.GivesLemmas.{Gives-none, Gives-of, Gives-then}
use Rattle.http_exchange.specs.Chunks.{chunk, full_chunks, count_full, rest_of}
use Rattle.http_exchange.specs.Framing.{Gathers}
use Rattle.http_exchange.proofs.ChunkLemmas.{chunks-on, rest-on, chunks-one, rest-none, chunks-short, rest-whole}

-- the chunks that a body fills
abbrev pub chunks_of : List ℕ → List ℕ
chunks_of m = full_chunks (count_full m) m

-- nothing was read yet
pub gathers-none : (kept piece : List ℕ) → length kept < 1024 → Gathers kept piece [] kept piece
gathers-none kept piece short = record {
  done = [];
  is = refl;
  chunks = sym (ap chunks_of (append-nil kept) ∙ chunks-short kept short);
  rest_is = sym (ap rest_of (append-nil kept) ∙ rest-whole kept short);
}

-- one chunk was filled
pub gathers-one : (kept left : List ℕ) (size : ℕ) → length kept + length (take size left) ≡ 1024
    → Gathers kept left (chunk (kept ++ take size left)) [] (drop size left)
gathers-one kept left size full =
    let full' : length (kept ++ take size left) ≡ 1024 = length-append kept (take size left) ∙ full in
    record {
      done = take size left;
      is = sym (take-append-drop size left);
      chunks = sym (chunks-one (kept ++ take size left) full');
      rest_is = sym (rest-none (kept ++ take size left) full');
    }

-- more was read, after what was
pub gathers-more : (kept piece text rest left more rest' left' : List ℕ)
    → Gathers kept piece text rest left → Gathers rest left more rest' left'
    → Gathers kept piece (text ++ more) rest' left'
gathers-more kept piece text rest left more rest' left' first second =
    let sent = kept ++ first.done in
    let whole : kept ++ (first.done ++ second.done) ≡ sent ++ second.done = sym (append_assoc kept first.done second.done) in
    record {
      done = first.done ++ second.done;
      is = first.is ∙ (ap (λ t. first.done ++ t) second.is ∙ sym (append_assoc first.done second.done left'));
      chunks = ap (λ t. t ++ more) first.chunks
          ∙ (ap (λ t. chunks_of sent ++ t) (second.chunks ∙ ap (λ r. chunks_of (r ++ second.done)) first.rest_is)
          ∙ sym (ap chunks_of whole ∙ chunks-on sent second.done));
      rest_is = second.rest_is ∙ (ap (λ r. rest_of (r ++ second.done)) first.rest_is
          ∙ sym (ap rest_of whole ∙ rest-on sent second.done));
    }

whole_piece : (kept done left piece : List ℕ) → piece ≡ done ++ left → kept ++ piece ≡ (kept ++ done) ++ left
whole_piece kept done left piece is = ap (λ t. kept ++ t) is ∙ sym (append_assoc kept done left)

-- where there is a chunk, some of the piece was read
some_done : (done kept text : List ℕ) → length kept < 1024 → text ≡ chunks_of (kept ++ done) → 0 < length text
    → 0 < length done
some_done [] kept text short is some =
    let none : text ≡ [] = is ∙ (ap chunks_of (append-nil kept) ∙ chunks-short kept short) in
    absurd (omega (arith, ap length none))
some_done (b ∷ done) kept text short is some = omega arith

pub gathers-shorter : (kept piece text rest left : List ℕ) → length kept < 1024
    → Gathers kept piece text rest left → 0 < length text → length left < length piece
gathers-shorter kept piece text rest left short gathers some =
    omega (arith, ap length gathers.is, length-append gathers.done left, some_done gathers.done kept text short gathers.chunks some)

-- the chunks are the first of the whole piece
gathers-prefix : (kept piece text rest left : List ℕ) → Gathers kept piece text rest left → IsPrefix text (chunks_of (kept ++ piece))
gathers-prefix kept piece text rest left gathers =
    let sent = kept ++ gathers.done in (
      chunks_of (rest_of sent ++ left),
      ap chunks_of (whole_piece kept gathers.done left piece gathers.is)
          ∙ (chunks-on sent left ∙ ap (λ t. t ++ chunks_of (rest_of sent ++ left)) (sym gathers.chunks)),
    )

-- all of them, where what is left fills no chunk
gathers-chunks : (kept piece text rest left : List ℕ) → Gathers kept piece text rest left → length rest + length left < 1024
    → text ≡ chunks_of (kept ++ piece)
gathers-chunks kept piece text rest left gathers short =
    let sent = kept ++ gathers.done in
    let short' : length (rest ++ left) < 1024 = omega (arith, length-append rest left) in
    gathers.chunks
    ∙ sym (ap chunks_of (whole_piece kept gathers.done left piece gathers.is)
    ∙ (chunks-on sent left
    ∙ (ap (λ t. chunks_of sent ++ t) (ap (λ r. chunks_of (r ++ left)) (sym gathers.rest_is) ∙ chunks-short (rest ++ left) short')
    ∙ append-nil (chunks_of sent))))

gathers-rest : (kept piece text rest left : List ℕ) → Gathers kept piece text rest left → length rest + length left < 1024
    → rest ++ left ≡ rest_of (kept ++ piece)
gathers-rest kept piece text rest left gathers short =
    let sent = kept ++ gathers.done in
    let short' : length (rest ++ left) < 1024 = omega (arith, length-append rest left) in
    sym (ap rest_of (whole_piece kept gathers.done left piece gathers.is)
    ∙ (rest-on sent left
    ∙ (ap (λ r. rest_of (r ++ left)) (sym gathers.rest_is) ∙ rest-whole (rest ++ left) short')))

-- what went out of a piece that is read on, where the chunks that the sink was given are those of what was read
abbrev pub Cut : Told → Told → (kept piece left rest : List ℕ) → Type 0
Cut old new kept piece left rest = Gives old new [] (λ text. Gathers kept piece text rest left)

pub cut-first : (told : Told) (kept piece : List ℕ) → length kept < 1024 → Agrees told → Cut told told kept piece piece kept
cut-first told kept piece short agrees =
    Gives-none told [] (λ text. Gathers kept piece text kept piece) agrees (gathers-none kept piece short)

pub cut-more : (a b c : Told) (kept piece left rest text left' rest' : List ℕ) → Cut a b kept piece left rest
    → Gathers rest left text rest' left' → Gains b c text → Cut a c kept piece left' rest'
cut-more a b c kept piece left rest text left' rest' cut gathers pushed =
    Gives-then a b c [] (λ all. Gathers kept piece all rest left) (λ all. Gathers kept piece all rest' left') cut
    (λ more done. Gives-of b c more text (λ all. Gathers kept piece all rest' left') pushed
    (gathers-more kept piece more rest left text rest' left' done gathers))

pub cut-fault : (a b c : Told) (kept piece left rest text left' rest' : List ℕ) → Cut a b kept piece left rest
    → Gathers rest left text rest' left' → GainsPrefix b c text → GainsPrefix a c (chunks_of (kept ++ piece))
cut-fault a b c kept piece left rest text left' rest' cut gathers pushed =
    GainsPrefix-longer a c (cut.more ++ text) (chunks_of (kept ++ piece))
    (gathers-prefix kept piece (cut.more ++ text) rest' left'
    (gathers-more kept piece cut.more rest left text rest' left' cut.holds gathers))
    (GainsPrefix-after a b c cut.more text cut.gained pushed)

pub cut-last : (a b : Told) (kept piece left rest : List ℕ) → Cut a b kept piece left rest
    → length rest + length left < 1024 → Gains a b (chunks_of (kept ++ piece))
cut-last a b kept piece left rest cut short =
    let P : List ℕ → Type 0 = λ t. Gains a b t in
    subst P (gathers-chunks kept piece cut.more rest left cut.holds short) cut.gained

pub cut-rest : (a b : Told) (kept piece left rest : List ℕ) → Cut a b kept piece left rest
    → length rest + length left < 1024 → rest ++ left ≡ rest_of (kept ++ piece)
cut-rest a b kept piece left rest cut short = gathers-rest kept piece cut.more rest left cut.holds short
