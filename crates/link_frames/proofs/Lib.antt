mod ReadBack
mod WriteBack
