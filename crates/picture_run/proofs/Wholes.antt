-- A picture of its arrows and its marks.
use Rattle.std.proofs.Common.{◌≡◌, ◌∙◌, ◌<◌, ◌+◌, All, ap, subst, ℕ, Option, Some, List, [], ◌∷◌, ◌++◌, codes, count_by, fold, if◌then◌else◌, length, map, refl}
use Rattle.protocol.specs.declared.messages.Envelope.{Envelope}
use Rattle.protocol.specs.declared.events.JournalEntry.{JournalEntry}
use Rattle.protocol.specs.declared.events.Event.{Event}
use Rattle.protocol.specs.declared.trees.TreeProcess.{TreeProcess}
use Rattle.picture_layout.specs.declared.drawn.Arrow.{Arrow}
use Rattle.picture_layout.specs.declared.drawn.RecordMark.{RecordMark}
use Rattle.picture_layout.specs.declared.drawn.Stub.{Stub}
use Rattle.picture_layout.specs.declared.seats.Column.{Column}
use Rattle.picture_layout.specs.Fates.{Leaving, leaving_in, leavings}
use Rattle.picture_layout.specs.Ways.{HasSeat, senders, spot_of, ways_in}
use Rattle.picture_layout.specs.Whole.{deliveries, sent_in}
use Rattle.picture_shapes.specs.declared.frame.PictureFrame.{PictureFrame}
use Rattle.picture_shapes.specs.declared.frame.Grid.{Grid}
use Rattle.picture_shapes.specs.declared.shapes.Shape.{Shape}
use Rattle.picture_shapes.specs.declared.shapes.Square.{Square}
use Rattle.picture_shapes.specs.declared.shapes.Stroke.{Stroke}
use Rattle.picture_shapes.specs.declared.signs.Signs.{Signs}
use Rattle.picture_shapes.specs.Grids.{row_at}
use Rattle.picture_shapes.specs.Head.{head_text, keys_of}
use Rattle.picture_shapes.specs.Svg.{shapes_text, squares_text, strokes_text}
use Rattle.picture_words.specs.Labels.{title_in}
use Rattle.picture_run.specs.declared.plan.Plan.{Plan}
use Rattle.picture_run.specs.Along.{DepartAll, RunAlong}
use Rattle.picture_run.specs.Captions.{caption_along, caption_of, captions_along, said_of, says_of}
use Rattle.picture_run.specs.Lines.{refused_lines, steps_lines}
use Rattle.picture_run.specs.Pictures.{IsPicture, opening_of, spot_key, square_key, titles_of}
use Rattle.picture_run.specs.Plans.{IsPlaced}
use Rattle.picture_run.specs.Sums.{crashes_in, summary_by, summary_of}

map_both : {A B C : Type 0} (f : B → C) (g : A → B) (xs : List A) → map (λ x. f (g x)) xs ≡ map f (map g xs)
map_both f g [] = refl
map_both f g (x ∷ xs) = ap (λ zs. f (g x) ∷ zs) (map_both f g xs)

-- the words of arrows, by their ways and their numbers
captions_are : (g : Grid) (room : ℕ) (ms : List Envelope) (drawn : List Arrow)
    → map (λ (a : Arrow). Some (caption_along g room ms a.way a.number)) drawn
    ≡ captions_along g room ms (map (λ (a : Arrow). a.way) drawn) (map (λ (a : Arrow). a.number) drawn)
unfolding captions_along
captions_are g room ms [] = refl
captions_are g room ms (a ∷ rest) = ap (λ cs. Some (caption_along g room ms a.way a.number) ∷ cs)
    (captions_are g room ms rest)

-- what is drawn along, at and beside the arrows, marks and stubs of a plan
pub record Draws (p : Plan) (f : PictureFrame) (strokes departures : List Stroke)
    (openings squares : List Square)
    (captions apart_words : List Shape) : Type 0 where
  pub opened : map square_key openings ≡ map (λ (s : Column). spot_key f.grid (opening_of s)) p.seats.items
  pub titles : map (λ (s : Stroke). s.title.items) strokes
      ≡ map (λ (a : Arrow). title_in p.messages.items a.number) p.arrows.items
  pub along : RunAlong f.grid (map (λ (a : Arrow). a.way) p.arrows.items) strokes
  pub said : map caption_of captions
      ≡ map (λ (a : Arrow). Some (caption_along f.grid f.room.messages p.messages.items a.way a.number))
      p.arrows.items
  pub keys : map square_key squares ≡ map (λ (m : RecordMark). spot_key f.grid (spot_of m)) p.marks.items
  pub leaving : titles_of departures ≡ map (λ (s : Stub). title_in p.messages.items s.number) p.stubs.items
  pub depart : DepartAll f.grid (map leaving_in p.stubs.items) departures
  pub named : map said_of apart_words
      ≡ map (λ (s : Stub). says_of f.room.messages p.messages.items s.number) p.stubs.items

-- of the stubs of a plan those that no step delivers, and N others
never_from : (ts : List Stub) (n : ℕ) → fold (λ a (t : Stub). a + (if t.crossed then 1 else 0)) n ts
    ≡ fold (λ a (l : Leaving). a + (if l.never then 1 else 0)) n (map leaving_in ts)
never_from [] n = refl
never_from (t ∷ ts) n = never_from ts (n + (if t.crossed then 1 else 0))

never_in : (ts : List Stub) → count_by (λ (t : Stub). t.crossed) ts
    ≡ count_by (λ (l : Leaving). l.never) (map leaving_in ts)
never_in ts = never_from ts 0

-- a plan has the numbers of its run
sums : (events : ℕ) (entries : List JournalEntry) (p : Plan) (apart : List Leaving)
    → p.messages.items ≡ sent_in entries
    → map leaving_in p.stubs.items ≡ apart → summary_by events p entries
    ≡ summary_of events p.seats.items entries apart
sums events entries p apart sent same =
    ap (λ (ms : List Envelope). record {
      events = events;
      processes = length p.seats.items;
      messages = length ms;
      «open» = count_by (λ (t : Stub). t.crossed) p.stubs.items;
      crashes = crashes_in entries;
    }) sent
    ∙ ap (λ (n : ℕ). record {
      events = events;
      processes = length p.seats.items;
      messages = length (sent_in entries);
      «open» = n;
      crashes = crashes_in entries;
    }) (never_in p.stubs.items ∙ ap (λ ls. count_by (λ (l : Leaving). l.never) ls) same)

-- a text that has the head, the arrows, the marks and the stubs of a plan is a picture of the steps that they
-- are of
pub pictured : (tree : List TreeProcess) (events : ℕ) (entries : List JournalEntry) (refused : Option Event)
    (p : Plan) (f : PictureFrame)
    (legend : Signs) (keys : ℕ) (strokes departures lines : List Stroke) (openings squares : List Square)
    (below boxes signs names captions records apart_words words : List Shape) (head text : List ℕ)
    → map (λ (a : Arrow). a.number) p.arrows.items ≡ deliveries (length (sent_in entries)) entries
    → IsPlaced entries p → All (HasSeat p.seats.items) tree → p.messages.items ≡ sent_in entries
    → 0 < f.grid.gap → f.processes ≡ length p.seats.items → f.keys ≡ keys → keys ≡ length (keys_of legend)
    → head ≡ head_text f (row_at f.grid p.rows.end + 30) (summary_by events p entries) legend
    → Draws p f strokes departures openings squares captions apart_words
    → titles_of lines ≡ steps_lines entries ++ refused_lines refused
    → text ≡ (((((((((head ++ shapes_text below) ++ strokes_text strokes) ++ strokes_text departures)
    ++ strokes_text lines) ++ shapes_text boxes) ++ squares_text openings) ++ shapes_text signs)
    ++ squares_text squares) ++ shapes_text ((((names ++ captions) ++ records) ++ apart_words) ++ words))
    ++ codes "</svg>\n"
    → IsPicture tree events entries refused text
pictured tree events entries refused p f legend keys strokes departures lines openings squares below boxes
    signs names captions
    records apart_words words head text numbers placed seated sent apart wide kept counted headed
    draws others is =
    let g = f.grid in
    let room = f.room.messages in
    let ms = sent_in entries in
    record {
      frame = f;
      apart = apart;
      seats = p.seats.items;
      wide = wide;
      in_order = placed.in_order;
      seated = seated;
      rows = p.rows.steps.items;
      end = p.rows.end;
      rise = placed.rise;
      each = placed.each;
      legend = legend;
      keys = kept ∙ counted;
      below = below;
      strokes = strokes;
      departures = departures;
      lines = lines;
      boxes = boxes;
      openings = openings;
      signs = signs;
      squares = squares;
      names = names;
      captions = captions;
      records = records;
      apart_words = apart_words;
      words = words;
      arrows = draws.titles
          ∙ map_both (title_in p.messages.items) (λ (a : Arrow). a.number) p.arrows.items
          ∙ ap (λ ns. map (title_in p.messages.items) ns) numbers
          ∙ ap (λ xs. map (title_in xs) (deliveries (length ms) entries)) sent;
      ways = subst (λ ws. RunAlong g ws strokes) placed.ways draws.along;
      marks = draws.keys ∙ map_both (spot_key g) spot_of p.marks.items
          ∙ ap (λ xs. map (spot_key g) xs) placed.spots;
      said = draws.said ∙ captions_are g room p.messages.items p.arrows.items
          ∙ ap (λ xs. captions_along g room xs (map (λ (a : Arrow). a.way) p.arrows.items)
          (map (λ (a : Arrow). a.number) p.arrows.items)) sent
          ∙ ap (λ ws. captions_along g room ms ws (map (λ (a : Arrow). a.number) p.arrows.items)) placed.ways
          ∙ ap (λ ns. captions_along g room ms (ways_in p.seats.items p.rows.steps.items (senders entries)
          entries) ns) numbers;
      fates = placed.fates;
      fated = placed.fated;
      leaving = draws.leaving
          ∙ map_both (λ (l : Leaving). title_in p.messages.items l.number) leaving_in p.stubs.items
          ∙ ap (λ xs. map (λ (l : Leaving). title_in xs l.number) (map leaving_in p.stubs.items)) sent
          ∙ ap (λ ls. map (λ (l : Leaving). title_in ms l.number) ls) placed.apart;
      depart = subst (λ ls. DepartAll g ls departures) placed.apart draws.depart;
      named = draws.named
          ∙ map_both (λ (l : Leaving). says_of room p.messages.items l.number) leaving_in p.stubs.items
          ∙ ap (λ xs. map (λ (l : Leaving). says_of room xs l.number) (map leaving_in p.stubs.items)) sent
          ∙ ap (λ ls. map (λ (l : Leaving). says_of room ms l.number) ls) placed.apart;
      others = others;
      opened = draws.opened;
      layers = is
          ∙ ap (λ h. (((((((((h ++ shapes_text below) ++ strokes_text strokes) ++ strokes_text departures)
          ++ strokes_text lines) ++ shapes_text boxes) ++ squares_text openings) ++ shapes_text signs)
          ++ squares_text squares) ++ shapes_text
          ((((names ++ captions) ++ records) ++ apart_words) ++ words)) ++ codes "</svg>\n")
          (headed ∙ ap (λ s. head_text f (row_at g p.rows.end + 30) s legend)
          (sums events entries p (leavings p.seats.items p.rows.steps.items entries placed.fates)
          sent placed.apart));
    }

-- what is drawn of a plan, where each call leaves the frame as it was
pub draws_of : (p : Plan) (opened arrowed marked stubbed : PictureFrame) (seats : List Column)
    (ms ns : List Envelope)
    (bs : List Arrow) (ks : List RecordMark) (ts : List Stub) (strokes departures : List Stroke)
    (openings squares : List Square)
    (captions none apart_words nothing : List Shape)
    → arrowed ≡ opened → marked ≡ opened → stubbed ≡ opened
    → seats ≡ p.seats.items → ms ≡ p.messages.items → bs ≡ p.arrows.items → ks ≡ p.marks.items
    → ns ≡ p.messages.items
    → ts ≡ p.stubs.items → none ≡ [] → nothing ≡ []
    → map square_key openings ≡ map (λ (s : Column). spot_key opened.grid (opening_of s)) seats
    → map (λ (s : Stroke). s.title.items) strokes ≡ map (λ (a : Arrow). title_in ms a.number) bs
    → RunAlong arrowed.grid (map (λ (a : Arrow). a.way) bs) strokes
    → map caption_of captions ≡ map caption_of none
    ++ map (λ (a : Arrow). Some (caption_along arrowed.grid arrowed.room.messages ms a.way a.number)) bs
    → map square_key squares ≡ map (λ (m : RecordMark). spot_key marked.grid (spot_of m)) ks
    → titles_of departures ≡ map (λ (s : Stub). title_in ns s.number) ts
    → DepartAll stubbed.grid (map leaving_in ts) departures
    → map said_of apart_words ≡ map said_of nothing
    ++ map (λ (s : Stub). says_of stubbed.room.messages ns s.number) ts
    → Draws p opened strokes departures openings squares captions apart_words
draws_of p opened arrowed marked stubbed seats ms ns bs ks ts strokes departures openings squares captions
    none apart_words
    nothing same_arrowed same_marked same_stubbed sit m_is b_is k_is n_is t_is first last opens titles along
    said keys leaving
    depart named =
    record {
      opened = opens ∙ ap (λ xs. map (λ (s : Column). spot_key opened.grid (opening_of s)) xs) sit;
      titles = titles ∙ ap (λ xs. map (λ (a : Arrow). title_in ms a.number) xs) b_is
          ∙ ap (λ xs. map (λ (a : Arrow). title_in xs a.number) p.arrows.items) m_is;
      along = subst (λ (f : PictureFrame). RunAlong f.grid (map (λ (a : Arrow). a.way) p.arrows.items)
          strokes) same_arrowed
          (subst (λ xs. RunAlong arrowed.grid (map (λ (a : Arrow). a.way) xs) strokes) b_is along);
      said = said ∙ ap (λ xs. map caption_of xs
          ++ map (λ (a : Arrow). Some (caption_along arrowed.grid arrowed.room.messages ms
          a.way a.number)) bs) first
          ∙ ap (λ xs. map (λ (a : Arrow). Some (caption_along arrowed.grid arrowed.room.messages ms a.way
          a.number)) xs) b_is
          ∙ ap (λ xs. map (λ (a : Arrow). Some (caption_along arrowed.grid arrowed.room.messages xs
          a.way a.number))
          p.arrows.items) m_is
          ∙ ap (λ (f : PictureFrame). map (λ (a : Arrow).
          Some (caption_along f.grid f.room.messages p.messages.items a.way a.number))
          p.arrows.items) same_arrowed;
      keys = keys ∙ ap (λ xs. map (λ (m : RecordMark). spot_key marked.grid (spot_of m)) xs) k_is
          ∙ ap (λ (f : PictureFrame). map (λ (m : RecordMark). spot_key f.grid (spot_of m)) p.marks.items)
          same_marked;
      leaving = leaving ∙ ap (λ xs. map (λ (s : Stub). title_in ns s.number) xs) t_is
          ∙ ap (λ xs. map (λ (s : Stub). title_in xs s.number) p.stubs.items) n_is;
      depart = subst (λ (f : PictureFrame). DepartAll f.grid (map leaving_in p.stubs.items) departures)
          same_stubbed
          (subst (λ xs. DepartAll stubbed.grid (map leaving_in xs) departures) t_is depart);
      named = named ∙ ap (λ xs. map said_of xs
          ++ map (λ (s : Stub). says_of stubbed.room.messages ns s.number) ts) last
          ∙ ap (λ xs. map (λ (s : Stub). says_of stubbed.room.messages ns s.number) xs) t_is
          ∙ ap (λ xs. map (λ (s : Stub). says_of stubbed.room.messages xs s.number) p.stubs.items) n_is
          ∙ ap (λ (f : PictureFrame). map (λ (s : Stub). says_of f.room.messages p.messages.items s.number)
          p.stubs.items) same_stubbed;
    }
