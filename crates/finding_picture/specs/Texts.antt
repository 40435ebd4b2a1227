-- What a page says that is the same on each: heads, sentences and columns.
use Rattle.std.specs.Prelude.{ℕ, List, codes}

-- in place of an event, for a checkpoint
unfoldable pub checkpoint : List ℕ
checkpoint = codes "<h2>The event</h2>\n<p>This is a checkpoint of the setup: no line of the log has it.</p>\n<dl>\n"

-- the drawing of the window
unfoldable pub before_places : List ℕ
before_places = codes "<h2>Places</h2>\n<p>An answer of the event could be right at a place of the band: a place is a revision, and what the cluster held\nwhen it was the last one. A tick is a write that made a revision. A bar is the range in which a removal took place.\nThe boxes below are the versions of the event's object, each from its revision on. Place 18446744073709551615 stands\nbehind all revisions.</p>\n<figure>\n<svg role=\"img\" viewBox=\"0 0 960 150\" aria-labelledby=\"places-title places-desc\">\n<title id=\"places-title\">The window of the event over the line of revisions</title>\n<desc id=\"places-desc\">"

-- its band and its axis, before the low end
unfoldable pub band_and_axis : List ℕ
band_and_axis = codes ". The table of the writes has each.</desc>\n<rect class=\"band\" x=\"40\" y=\"30\" width=\"880\" height=\"50\"/>\n<line class=\"axis\" x1=\"40\" y1=\"80\" x2=\"920\" y2=\"80\"/>\n<text x=\"40\" y=\"22\">"

-- the drawing of the times
unfoldable pub before_times : List ℕ
before_times = codes "<h2>Time</h2>\n<p>The band is the time from the event's receipt to its stage. Each dashed bar is the same of a write in the window;\nthe table below has its moments.</p>\n<figure>\n<svg role=\"img\" viewBox=\"0 0 960 170\" aria-labelledby=\"times-title times-desc\">\n<title id=\"times-title\">The event and the writes over the line of time</title>\n<desc id=\"times-desc\">The event lasted from "

-- of an event that isn't about a single object
unfoldable pub no_object : List ℕ
no_object = codes "<h2>What an answer would have been</h2>\n<p>The event's answer isn't one about a single object.</p>\n"

-- before the key of the event's object
unfoldable pub before_object : List ℕ
before_object = codes "<h2>What an answer would have been</h2>\n<p>The object is <code>"

-- behind it, with the columns of the table
unfoldable pub behind_object : List ℕ
behind_object = codes "</code>. Before its first version of all it is absent. A version is there up to the next one, or to the removal of\nits UID. The versions are listed from the last one at or below the window's low end on.</p>\n<table>\n<tr><th scope=\"col\">At places</th><th scope=\"col\">An answer shows</th><th scope=\"col\">UID</th>\n<th scope=\"col\">Written by</th></tr>\n"

-- the unrecorded writes that may have changed the event's object
unfoldable pub before_own : List ℕ
before_own = codes "<h2>Unrecorded writes that may have changed the event's object</h2>\n<p>The log doesn't tell what these writes left. Behind the place that is named, the object may be anything until a\nrecorded revision shows it again.</p>\n"

-- those of the log
unfoldable pub before_hiding : List ℕ
before_hiding = codes "<h2>Unrecorded writes</h2>\n<p>The log doesn't tell what these writes left. Behind the place that is named, an object that a row stands for may be\nanything until a recorded revision shows it again.</p>\n"

-- the columns of their table
unfoldable pub hiding_columns : List ℕ
hiding_columns = codes "<table>\n<tr><th scope=\"col\">Line</th><th scope=\"col\">Hides</th><th scope=\"col\">Group</th>\n<th scope=\"col\">Resource</th><th scope=\"col\">Namespace</th><th scope=\"col\">Name</th></tr>\n"

-- before the range of the caches' places
unfoldable pub before_caches : List ℕ
before_caches = codes "<h2>The authorizer's caches</h2>\n<p>The four caches (roles, cluster roles, and the bindings of each) may have been at places from "

-- behind it, with the columns of the table
unfoldable pub behind_range : List ℕ
behind_range = codes ". In that range these came and went:</p>\n<table>\n<tr><th scope=\"col\">Where</th><th scope=\"col\">Role or binding</th><th scope=\"col\">By</th></tr>\n"
