-- The signature of MP3 without ID3 and its test.
use Rattle.std.proofs.Common.{ℕ, ◌+◌, not, ◌==◌, nat_le, List, length, slice_index, bit_and, Decides}
use Rattle.std.proofs.lemmas.Bool.Decides.{Decides-eqb, Decides-and, Decides-like, Decides-not}
use Rattle.signatures.specs.Mpeg.{IsMpegFrame, IsFrameHeader, IsLayer3, is_mpeg_window, is_frame_header, is_layer_3, first_frame_size, version_of, layer_of, bit_rate_index, sample_rate_index}
use Rattle.signatures.proofs.Mp4Lemmas.{leb-Decides}

pub layer_3-Decides : (second third : ℕ) → Decides (is_layer_3 second third) (IsLayer3 second third)
layer_3-Decides second third =
    Decides-like (is_layer_3 second third)
    (λ is. record {
      sync = is.0;
      version = is.1.0;
      layer = is.1.1.0;
      bit_rate_from = is.1.1.1.0;
      bit_rate_to = is.1.1.1.1.0;
      sample_rate_to = is.1.1.1.1.1;
    })
    (λ is. (is.sync, (is.version, (is.layer, (is.bit_rate_from, (is.bit_rate_to, is.sample_rate_to))))))
    (Decides-and (bit_and second 0xe0 == 0xe0) _ (Decides-eqb (bit_and second 0xe0) 0xe0)
    (Decides-and (not (version_of second == 0x08)) _ (Decides-not (version_of second == 0x08) (Decides-eqb (version_of second) 0x08))
    (Decides-and (layer_of second == 0x02) _ (Decides-eqb (layer_of second) 0x02)
    (Decides-and (nat_le 1 (bit_rate_index third)) _ (leb-Decides 1 (bit_rate_index third))
    (Decides-and (nat_le (bit_rate_index third) 14) _ (leb-Decides (bit_rate_index third) 14) (leb-Decides (sample_rate_index third) 2))))))

pub header-Decides : (offset : ℕ) (window : List ℕ) → Decides (is_frame_header offset window) (IsFrameHeader offset window)
header-Decides offset window =
    Decides-like (is_frame_header offset window)
    (λ is. record { inside = is.0; sync = is.1.0; layer_3 = is.1.1 })
    (λ is. (is.inside, (is.sync, is.layer_3)))
    (Decides-and (nat_le (offset + 4) (length window)) _ (leb-Decides (offset + 4) (length window))
    (Decides-and (slice_index window offset == 0xff) _ (Decides-eqb (slice_index window offset) 0xff)
    (layer_3-Decides (slice_index window (offset + 1)) (slice_index window (offset + 2)))))

pub mpeg-Decides : (window : List ℕ) → Decides (is_mpeg_window window) (IsMpegFrame window)
unfolding is_mpeg_window
mpeg-Decides window =
    Decides-like (is_mpeg_window window)
    (λ is. record { first = is.0; second = is.1 })
    (λ is. (is.first, is.second))
    (Decides-and (is_frame_header 0 window) (is_frame_header (first_frame_size window) window)
    (header-Decides 0 window) (header-Decides (first_frame_size window) window))
